-- The loop of `is_below` has reached the first class or an ancestor of it, and this class is below the second class exactly if the first one is.
use Rattle.cool_classes.specs.Entries.{classes, depth_at}
use Rattle.cool_classes.proofs.Climbs.{Climbing}
use Rattle.cool_classes.proofs.climbing.is_below.Given as goal

abbrev pub invariant-loop-b : goal.invariant-loop-b
invariant-loop-b l = Climbing (classes l.entries) l.fn.a l.class l.b

abbrev pub decreases-loop-b : goal.decreases-loop-b
decreases-loop-b l = depth_at l.entries l.class
