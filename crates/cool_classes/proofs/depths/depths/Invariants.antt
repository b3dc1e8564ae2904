-- The loop of `depths` has walked from each class definition before the current one to its ancestors, as `AreWalked` of `Walks.antt` describes.
use Rattle.cool_classes.specs.Walks.{AreWalked}
use Rattle.cool_classes.proofs.depths.depths.Given as goal

abbrev pub invariant-loop-start : goal.invariant-loop-start
invariant-loop-start l = AreWalked l.parents l.start l.found.known.items l.found.cyclic.items l.passed.items
