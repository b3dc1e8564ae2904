-- The loop of `preorder` has added some classes: followed by the subtrees of the classes on its stack, they are all classes in preorder.
use Rattle.std.proofs.Common.{length, flat_map}
use Rattle.std.specs.Prelude.{reverse}
use Rattle.cool_layout.specs.Preorder.{family}
use Rattle.cool_layout.proofs.Walking.{Walking}
use Rattle.cool_layout.proofs.order.preorder.Given as goal

abbrev pub invariant-loop-class : goal.invariant-loop-class
invariant-loop-class l = Walking l.t l.order.items l.next.items l.waiting.items

abbrev pub decreases-loop-class : goal.decreases-loop-class
decreases-loop-class l = length (flat_map (family l.t) (reverse l.waiting.items))
