-- The loop of `program_marks` has added the marks (records of the occurrences of names) of the classes before the current one.
use Rattle.std.proofs.Common.{◌≡◌, ◌+◌, ◌++◌, drop}
use Rattle.cool_names.specs.Programs.{marks_from, program_marks}
use Rattle.cool_names.proofs.program.program_marks.Given as goal

abbrev pub invariant-loop-index : goal.invariant-loop-index
invariant-loop-index l = l.marks.items ++ marks_from l.table l.definitions (l.index + 5) (drop l.index l.definitions) ≡ program_marks l.table l.definitions
