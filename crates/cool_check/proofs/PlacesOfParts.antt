-- If the source locations in an expression are in the files, the locations in its subexpressions are, too.
use Rattle.std.proofs.Common.{◌≡◌, ℕ, zero, suc, ◌<◌, List, [], ◌∷◌, length, map, get_or, subst, sym, arith}
use Rattle.std.specs.List.{AllByRecursion}
use Rattle.cool_syntax.specs.declared.node.NodeId.{NodeId}
use Rattle.cool_syntax.specs.declared.node.NodeBranch.{NodeBranch}
use Rattle.cool_syntax.specs.Tree.{Tree, of_list, of_twigs, place_of}
use Rattle.cool_syntax.specs.Tree as trees
use Rattle.cool_syntax.specs.NodeLists.{at_id, twig_at, all_trees, tree_at}
use Rattle.cool_syntax.specs.TokenFacts.{IsPlaced}
use Rattle.cool_syntax.specs.TreesWithinLimits.{IsTreeWithin, AreTreesWithin, AreCasesWithin}

-- the places of a branch of a case stand in so many files
abbrev pub IsBranchWithin : ℕ → Tree → NodeBranch → Type 0
IsBranchWithin files body b = IsPlaced files b.at × IsPlaced files b.declared.at × IsTreeWithin files (tree_at body b.body)

-- if the expressions at some numbers stand in the files, so does each of them
pub tree_within : (n : ℕ) (t : Tree) (ids : List NodeId) (i : ℕ) (d : NodeId) → i < length ids → AreTreesWithin n (of_list (map (at_id (all_trees t)) ids)) → IsTreeWithin n (tree_at t (get_or ids i d))
tree_within n t [] i d p h = absurd (omega arith)
tree_within n t (id ∷ ids) zero d p h = h.0
tree_within n t (id ∷ ids) (suc i) d p h = tree_within n t ids i d (omega arith) h.1

-- if the branches of a case stand in the files, so does each of them
pub branch_within : (n : ℕ) (t : Tree) (bs : List NodeBranch) (i : ℕ) (b : NodeBranch) → i < length bs → b ≡ get_or bs i b → AreCasesWithin n (of_twigs (map (twig_at (all_trees t)) bs)) → IsBranchWithin n t b
branch_within n t [] i b p e h = absurd (omega arith)
branch_within n t (x ∷ bs) zero b p e h = subst (IsBranchWithin n t) (sym e) (h.0, h.2.1, h.3)
branch_within n t (x ∷ bs) (suc i) b p e h = branch_within n t bs i b (omega arith) e h.4

-- numbers below one are below a greater one
pub ids_below : (k m : ℕ) (ids : List NodeId) → k < m → AllByRecursion (λ id. id.0 < k) ids → AllByRecursion (λ id. id.0 < m) ids
ids_below k m [] p h = tt
ids_below k m (id ∷ ids) p h = (omega (arith, h.0), ids_below k m ids p h.1)

-- if an expression stands in the files, so does its own mark
pub place_within : (n : ℕ) (t : Tree) → IsTreeWithin n t → IsPlaced n (place_of t)
place_within n (trees.Bool at value) h = h
place_within n (trees.Not at t) h = h.0
place_within n (trees.While at t b) h = h.0
place_within n (trees.Dispatch at t name ts) h = h.0
place_within n _ h = h.0
