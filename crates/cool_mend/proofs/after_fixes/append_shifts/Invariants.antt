-- In the loop of `append_shifts`, the shifts by the edits that were passed are appended.
use Rattle.std.proofs.Common.{◌≡◌, ◌++◌, map, take}
use Rattle.cool_mend.specs.AfterFixes.{shift_of}
use Rattle.cool_mend.proofs.after_fixes.append_shifts.Given as goal

abbrev pub invariant-loop-index : goal.invariant-loop-index
invariant-loop-index l = l.shifts.items ≡ l.fn.shifts.items ++ map shift_of (take l.index l.edits)
