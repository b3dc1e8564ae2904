-- In the loop of `append_origins`, the places that were passed are appended.
use Rattle.std.proofs.Common.{◌≡◌, ◌++◌, take}
use Rattle.cool_mend.proofs.after_fixes.append_origins.Given as goal

abbrev pub invariant-loop-index : goal.invariant-loop-index
invariant-loop-index l = l.told.items ≡ l.fn.told.items ++ take l.index l.origins
