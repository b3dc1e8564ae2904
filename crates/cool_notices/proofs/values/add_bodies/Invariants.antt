-- In the loop of `add_bodies`, the node numbers of the bodies of the `case` branches before the present one are added.
use Rattle.std.proofs.Common.{◌≡◌, ◌++◌, map, drop}
use Rattle.cool_syntax.specs.declared.node.NodeBranch.{NodeBranch}
use Rattle.cool_notices.proofs.values.add_bodies.Given as goal

abbrev pub invariant-loop-branch : goal.invariant-loop-branch
invariant-loop-branch l = l.left.items ++ map (λ (b : NodeBranch). b.body) (drop l.branch-index l.branches) ≡ l.fn.left.items ++ map (λ (b : NodeBranch). b.body) l.branches
