use Rattle.std.proofs.Common.{◌∷◌, [], ◌++◌, ◌∙◌, ap}
use Rattle.cool_pool.specs.Region.{Region}
use Rattle.cool_pool.proofs.PlacingNodes.{placed}
use Rattle.cool_pool.proofs.pool.Pool.place.Goals as goal

pub invariant_of-self : goal.invariant_of-self
invariant_of-self c =
    placed c.self.inside.nodes.items c.args.self.now.nodes _ c.args.node (ap (λ (r : Region). r.nodes) c.self.view_is) c.self.invariant.0 c.requires.parts c.requires.few c.push_reserved.ensures.items

pub invariant_of-self-in-Ok : goal.invariant_of-self-in-Ok
invariant_of-self-in-Ok c =
    placed c.self.inside.nodes.items c.args.self.now.nodes _ c.args.node (ap (λ (r : Region). r.nodes) c.self.view_is) c.self.invariant.0 c.requires.parts c.requires.few (c.push_reserved-in-Ok.ensures.items ∙ ap (λ ns. ns ++ c.args.node ∷ []) c.reserve.ensures.items)
