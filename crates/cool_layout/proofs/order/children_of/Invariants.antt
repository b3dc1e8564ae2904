-- The loop of `children_of` has added each class before the current one to the list of its parent.
use Rattle.cool_layout.specs.Walks.{AreChildren}
use Rattle.cool_layout.proofs.Children.{AreRooted}
use Rattle.cool_layout.proofs.order.children_of.Given as goal

abbrev pub invariant-loop-number : goal.invariant-loop-number
invariant-loop-number l = AreChildren l.t l.number l.all.items × AreRooted l.t l.number
