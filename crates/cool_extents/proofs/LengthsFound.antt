-- The number of extents (first and last token) that are computed is the number of nodes of the expression.
use Rattle.std.proofs.Common.{◌≡◌, ℕ, ◌+◌, List, [], ◌∷◌, ◌++◌, length, arith}
use Rattle.std.proofs.lemmas.List.{length-append}
use Rattle.cool_syntax.specs.declared.node.Node.{Node}
use Rattle.cool_syntax.specs.declared.token.Token.{Token}
use Rattle.cool_syntax.specs.NodeLists.{nodes}
use Rattle.cool_syntax.specs.Tree.{Tree, tree_size}
use Rattle.cool_syntax.proofs.TreesOfLists.{length-nodes}
use Rattle.cool_extents.specs.declared.extent.Extent.{Extent}
use Rattle.cool_extents.specs.FoundExtents.{found_after, found_extents, node_extent}

-- one for each node, behind those that were found before
pub length-found_after : (tokens : List Token) (found : List Extent) (ns : List Node) → length (found_after tokens found ns) ≡ length found + length ns
length-found_after tokens found [] = omega arith
length-found_after tokens found (n ∷ ns) =
    let e = node_extent tokens found n in
    omega (arith, length-found_after tokens (found ++ e ∷ []) ns, length-append found (e ∷ []))

-- one for each part of an expression
pub length-found_extents : (tokens : List Token) (t : Tree) → length (found_extents tokens t) ≡ tree_size t
length-found_extents tokens t = omega (arith, length-found_after tokens [] (nodes 0 t), length-nodes t 0)
