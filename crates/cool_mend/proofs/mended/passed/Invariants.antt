-- In the loop of `passed`, the errors after the edit that were passed since the start are a subsequence of the errors before the edit so far, moved by the
-- edit.
use Rattle.std.proofs.Common.{◌++◌, ◌≤◌, List, length, map, take}
use Rattle.cool_syntax.specs.FaultOrder.{Standing}
use Rattle.cool_faults.specs.Verdicts.{standing_of}
use Rattle.cool_mend.specs.Mends.{IsPart, moved_standing}
use Rattle.cool_mend.proofs.mended.passed.Given as goal

abbrev pub invariant-loop-index : goal.invariant-loop-index
invariant-loop-index l = record {
  bound : l.found ≤ length l.after;
  part : (earlier : List Standing) → IsPart (map standing_of (take l.initial.found l.after)) earlier
      → IsPart (map standing_of (take l.found l.after)) (earlier ++ map (moved_standing l.edit l.lines.more l.lines.less) (take l.index l.faults));
}
