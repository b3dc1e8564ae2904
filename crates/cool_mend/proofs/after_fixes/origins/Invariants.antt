-- In the loop of `origins`, the places so far are those of the errors that were passed.
use Rattle.std.proofs.Common.{◌≡◌, [], map, take}
use Rattle.cool_mend.specs.AfterFixes.{origin_of}
use Rattle.cool_mend.proofs.after_fixes.origins.Given as goal

abbrev pub invariant-loop-index : goal.invariant-loop-index
invariant-loop-index l = l.all.items ≡ map (λ x. origin_of [] x.fault) (take l.index l.explained)
