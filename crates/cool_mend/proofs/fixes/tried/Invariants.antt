-- In the loop of `tried`, the edits that are kept mend the error.
use Rattle.std.specs.List.{AllByRecursion}
use Rattle.cool_faults.specs.Files.{bytes_of}
use Rattle.cool_mend.specs.Explanations.{IsMend}
use Rattle.cool_mend.proofs.fixes.tried.Given as goal

abbrev pub invariant-loop-each : goal.invariant-loop-each
invariant-loop-each l = AllByRecursion (IsMend (bytes_of l.files) l.faults l.number) l.all.items
