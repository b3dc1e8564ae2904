-- The appended nodes of several expressions are those of the first expression followed by those of the others, and the numbers of their roots are in the same
-- order.
use Rattle.std.proofs.Common.{◌≡◌, ℕ, ◌+◌, List, [], ◌∷◌, ◌++◌, length, ◌∙◌, append_assoc}
use Rattle.cool_syntax.specs.declared.node.Node.{Node}
use Rattle.cool_syntax.specs.declared.node.NodeId.{NodeId}
use Rattle.cool_syntax.specs.declared.node.NodeBranch.{NodeBranch}
use Rattle.cool_syntax.specs.declared.place.Place.{Place}
use Rattle.cool_syntax.specs.declared.type_ref.TypeRef.{TypeRef}
use Rattle.cool_syntax.specs.Tree.{Tree, Trees, Cases, More, CaseOf, tree_size}
use Rattle.cool_syntax.specs.NodeLists.{nodes, nodes_of_all, nodes_of_cases, root, roots, branch_roots}
use Rattle.cool_fold.proofs.NodesPlaced.{more_nodes}

pub ids_later : (ids : List NodeId) (id : NodeId) (k j : ℕ) (t : Tree) (ts : Trees) → id ≡ root k t → j ≡ k + tree_size t
    → (ids ++ id ∷ []) ++ roots j ts ≡ ids ++ roots k (More t ts)
ids_later ids id k j t ts e f = append_assoc ids (id ∷ []) (roots j ts) ∙ (λ i. ids ++ (e i ∷ roots (f i) ts))

pub nodes_later : (before after : List Node) (t : Tree) (ts : Trees) → after ≡ before ++ nodes (length before) t
    → after ++ nodes_of_all (length after) ts ≡ before ++ nodes_of_all (length before) (More t ts)
nodes_later before after t ts e =
    let more = more_nodes before after t e in
    (λ i. e i ++ nodes_of_all (more i) ts) ∙ append_assoc before (nodes (length before) t) (nodes_of_all (length before + tree_size t) ts)

pub branches_later : (bs : List NodeBranch) (at : Place) (name : List ℕ) (declared : TypeRef) (id : NodeId) (k j : ℕ) (t : Tree) (cs : Cases)
    → id ≡ root k t → j ≡ k + tree_size t
    → (bs ++ record { at = at; name = name; declared = declared; body = id } ∷ []) ++ branch_roots j cs ≡ bs ++ branch_roots k
    (CaseOf at name declared t cs)
branches_later bs at name declared id k j t cs e f =
    append_assoc bs (record { at = at; name = name; declared = declared; body = id } ∷ []) (branch_roots j cs)
    ∙ (λ i. bs ++ (record { at = at; name = name; declared = declared; body = e i } ∷ branch_roots (f i) cs))

pub cases_later : (before after : List Node) (at : Place) (name : List ℕ) (declared : TypeRef) (t : Tree) (cs : Cases)
    → after ≡ before ++ nodes (length before) t
    → after ++ nodes_of_cases (length after) cs ≡ before ++ nodes_of_cases (length before) (CaseOf at name declared t cs)
cases_later before after at name declared t cs e =
    let more = more_nodes before after t e in
    (λ i. e i ++ nodes_of_cases (more i) cs) ∙ append_assoc before (nodes (length before) t) (nodes_of_cases (length before + tree_size t) cs)
