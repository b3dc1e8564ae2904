-- In the loop of `is_told`, the origin is none of the places that were passed.
use Rattle.std.proofs.Common.{◌≡◌, drop}
use Rattle.std.specs.List.{list_any}
use Rattle.cool_mend.specs.AfterFixes.{is_same}
use Rattle.cool_mend.proofs.after_fixes.is_told.Given as goal

abbrev pub invariant-loop-index : goal.invariant-loop-index
invariant-loop-index l = list_any (is_same l.origin) (drop l.index l.told) ≡ list_any (is_same l.origin) l.told
