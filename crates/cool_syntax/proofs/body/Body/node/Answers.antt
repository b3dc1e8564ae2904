use Rattle.std.proofs.Common.{◌≡◌, length, sym, ◌∙◌, ap, arith}
use Rattle.cool_syntax.specs.NodeLists.{nodes}
use Rattle.cool_syntax.proofs.TreesOfLists.{length-nodes}
use Rattle.cool_syntax.proofs.TreesAtNumbers.{read_node, tree_at_node, parts_of_node}
use Rattle.cool_syntax.proofs.body.Body.node.Goals as goal

pub index-requires : goal.index-requires
index-requires c =
    let listed : nodes 0 c.args.self.now ≡ c.self.inside.nodes.items = ap (nodes 0) (sym c.self.view_is) ∙ c.self.invariant.0 in
    omega (arith, length-nodes c.args.self.now 0, ap length listed, c.self.inside.nodes.ok.0)

pub returns : goal.returns
returns c =
    let listed : nodes 0 c.args.self.now ≡ c.self.inside.nodes.items = ap (nodes 0) (sym c.self.view_is) ∙ c.self.invariant.0 in
    let read = read_node c.args.self.now c.self.inside.nodes.items c.args.id c.index.result.now listed c.requires.below c.index.ensures in
    record { node = read; tree = tree_at_node c.args.self.now c.args.id c.index.result.now read; parts = parts_of_node c.args.self.now c.args.id c.index.result.now read }
