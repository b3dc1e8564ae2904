use Rattle.std.proofs.Common.{◌≡◌, length, sym, ◌∙◌, ap, arith}
use Rattle.cool_syntax.specs.NodeLists.{nodes}
use Rattle.cool_syntax.proofs.TreesOfLists.{length-nodes}
use Rattle.cool_syntax.proofs.body.Body.len.Goals as goal

pub returns : goal.returns
returns c =
    let listed : nodes 0 c.args.self.now ≡ c.self.inside.nodes.items = ap (nodes 0) (sym c.self.view_is) ∙ c.self.invariant.0 in
    omega (arith, length-nodes c.args.self.now 0, ap length listed, c.self.inside.nodes.ok.0)
