-- `Body::root` returns the index of the last node of the list, which is the root of the tree.
use Rattle.std.proofs.Common.{ℕ, ◌-◌, ap, sym, ◌∙◌, arith}
use Rattle.cool_syntax.proofs.TreesHaveNodes.{one_le_size}
use Rattle.cool_syntax.specs.NodeLists.{tree_at}
use Rattle.cool_syntax.proofs.TreesOfLists.{length-nodes, tree_of-nodes}
use Rattle.cool_syntax.proofs.body.Body.root.Goals as goal

pub overflow_sub-result : goal.overflow_sub-result
overflow_sub-result c = omega (arith, one_le_size c.args.self.now)

pub returns-clause-tree : goal.returns-clause-tree
returns-clause-tree c =
    let t = c.args.self.now in
    ap (λ (k : ℕ). tree_at t (record { 0 = k - 1 })) (c.len.ensures ∙ sym (length-nodes t 0)) ∙ tree_of-nodes t

pub returns-clause-below : goal.returns-clause-below
returns-clause-below c = let l = c.len.ensures in omega (arith, one_le_size c.args.self.now)
