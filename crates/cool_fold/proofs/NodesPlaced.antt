-- If the nodes of a tree are appended to a list of nodes, the last node of the list is the root, and the list is longer by the number of nodes of the tree.
use Rattle.std.proofs.Common.{◌≡◌, ℕ, ◌+◌, ◌-◌, ℤ, List, [], ◌∷◌, ◌++◌, Option, Some, None, Bool as Truth, length, sym, ap, ◌∙◌, append_assoc, length-append, arith}
use Rattle.std.proofs.Math.Seq.{take-append_seam}
use Rattle.cool_syntax.specs.declared.node.Node.{Node}
use Rattle.cool_syntax.specs.declared.node.NodeId.{NodeId}
use Rattle.cool_syntax.specs.declared.place.Place.{Place}
use Rattle.cool_syntax.proofs.TreesHaveNodes.{one_le_size}
use Rattle.cool_syntax.specs.Tree.{Tree, tree_size}
use Rattle.cool_syntax.specs.NodeLists.{nodes, root}
use Rattle.cool_syntax.proofs.TreesOfLists.{length-nodes}
use Rattle.cool_fold.specs.Folding.{number_or}
use Rattle.cool_fold.specs.Shrinking.{truth_or}
use Rattle.cool_fold.specs.FoldedNodes.{with_number, with_truth}

-- a number, or a truth, in place of nodes after those before
pub number_placed : (before rest : List Node) (n : Node) (t : Tree) (at : Place) (o : Option ℤ) → nodes (length before) t ≡ rest ++ n ∷ []
    → with_number (before ++ rest) (length before) n at o ≡ before ++ nodes (length before) (number_or t at o)
number_placed before rest n t at None e = append_assoc before rest (n ∷ []) ∙ ap (λ (ns : List Node). before ++ ns) (sym e)
number_placed before rest n t at (Some v) e = ap (λ (ns : List Node). ns ++ nodes (length before) (number_or t at (Some v)))
    (take-append_seam before rest)

pub truth_placed : (before rest : List Node) (n : Node) (t : Tree) (at : Place) (o : Option Truth) → nodes (length before) t ≡ rest ++ n ∷ []
    → with_truth (before ++ rest) (length before) n at o ≡ before ++ nodes (length before) (truth_or t at o)
truth_placed before rest n t at None e = append_assoc before rest (n ∷ []) ∙ ap (λ (ns : List Node). before ++ ns) (sym e)
truth_placed before rest n t at (Some b) e = ap (λ (ns : List Node). ns ++ nodes (length before) (truth_or t at (Some b)))
    (take-append_seam before rest)

-- the number of the last node is that of the root
pub last_is_root : (before after : List Node) (t : Tree) (id : NodeId) → after ≡ before ++ nodes (length before) t → id.0 + 1 ≡ length after
    → id ≡ root (length before) t
last_is_root before after t id placed last =
    let long : length after ≡ length before + tree_size t = ap length placed ∙ length-append before (nodes (length before) t)
    ∙ ap (λ (k : ℕ). length before + k) (length-nodes t (length before)) in
    let same : id.0 ≡ length before + tree_size t - 1 = omega (arith, one_le_size t) in
    λ i. record { 0 = same i }

-- and the nodes are so many more
pub more_nodes : (before after : List Node) (t : Tree) → after ≡ before ++ nodes (length before) t → length after ≡ length before + tree_size t
more_nodes before after t placed =
    ap length placed ∙ length-append before (nodes (length before) t) ∙ ap (λ (k : ℕ). length before + k) (length-nodes t (length before))
