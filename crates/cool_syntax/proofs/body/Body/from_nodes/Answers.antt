use Rattle.std.proofs.Common.{sym, ◌∙◌, ap}
use Rattle.cool_syntax.specs.NodeLists.{nodes, tree_of}
use Rattle.cool_syntax.proofs.TreesOfLists.{tree_of-nodes}
use Rattle.cool_syntax.proofs.body.Body.from_nodes.Goals as goal

pub invariant_of-result : goal.invariant_of-result
invariant_of-result c =
    let t = c.requires.postorder.0 in
    let p = c.requires.postorder.1 in
    (ap (λ ns. nodes 0 (tree_of ns)) p ∙ ap (nodes 0) (tree_of-nodes t) ∙ sym p, c.requires.few)

pub returns : goal.returns
returns c = record { tree = λ t p. ap tree_of p ∙ tree_of-nodes t }
