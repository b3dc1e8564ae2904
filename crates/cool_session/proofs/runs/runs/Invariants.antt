-- In the loop of `runs`, the sequences of tokens (runs) so far, followed by those of the files that are left, are those of the features of all files.
use Rattle.std.proofs.Common.{◌≡◌, ◌++◌, drop}
use Rattle.cool_session.specs.Runs.{bounds_of}
use Rattle.cool_session.proofs.runs.runs.Given as goal

abbrev pub invariant-loop-file : goal.invariant-loop-file
invariant-loop-file l = record {
  left : l.runs.items ++ bounds_of l.file (drop l.file l.lexed) ≡ bounds_of 0 l.lexed;
}
