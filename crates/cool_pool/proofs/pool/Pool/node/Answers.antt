use Rattle.std.proofs.Common.{◌≡◌, [], Some, length, refl, ap, subst, arith}
use Rattle.std.specs.List.{slice_get}
use Rattle.std.proofs.lemmas.Option.{slice_get_read}
use Rattle.cool_syntax.specs.NodeLists.{at_id, grown, made}
use Rattle.cool_syntax.proofs.TreesAtNumbers.{pool_tree, pool_parts}
use Rattle.cool_pool.specs.Region.{Region}
use Rattle.cool_pool.proofs.pool.Pool.node.Goals as goal

pub returns-clause-tree : goal.returns-clause-tree
returns-clause-tree c =
    let shown : c.self.inside.nodes.items ≡ c.args.self.now.nodes = ap (λ (r : Region). r.nodes) c.self.view_is in
    let read : slice_get c.self.inside.nodes.items c.args.id.0 ≡ Some c.index.result.now = slice_get_read c.self.inside.nodes.items (length c.self.inside.nodes.items) c.args.id.0 c.index.result.now refl (omega (arith, ap length shown)) c.index.ensures in
    subst (λ ns. at_id (grown [] ns) c.args.id ≡ made (grown [] ns) c.index.result.now) shown (pool_tree c.self.inside.nodes.items c.args.id c.index.result.now c.self.invariant.0 read)

pub returns-clause-parts : goal.returns-clause-parts
returns-clause-parts c =
    let shown : c.self.inside.nodes.items ≡ c.args.self.now.nodes = ap (λ (r : Region). r.nodes) c.self.view_is in
    let read : slice_get c.self.inside.nodes.items c.args.id.0 ≡ Some c.index.result.now = slice_get_read c.self.inside.nodes.items (length c.self.inside.nodes.items) c.args.id.0 c.index.result.now refl (omega (arith, ap length shown)) c.index.ensures in
    pool_parts c.self.inside.nodes.items c.args.id c.index.result.now c.self.invariant.0 read
