-- The loop of `join` has replaced each of the two classes by itself or by an ancestor. Each common ancestor of the two first classes is one of the current two.
use Rattle.std.proofs.Common.{◌+◌}
use Rattle.cool_classes.specs.Entries.{classes, depth_at}
use Rattle.cool_classes.proofs.Climbs.{Meeting}
use Rattle.cool_classes.proofs.climbing.join.Given as goal

abbrev pub invariant-loop-right : goal.invariant-loop-right
invariant-loop-right l = Meeting (classes l.entries) l.fn.a l.fn.b l.left l.right

abbrev pub decreases-loop-right : goal.decreases-loop-right
decreases-loop-right l = depth_at l.entries l.left + depth_at l.entries l.right
