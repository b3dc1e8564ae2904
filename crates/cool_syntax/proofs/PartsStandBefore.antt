-- In the list of nodes that represents a tree, the parts of each node come before the node (postorder).
use Rattle.std.proofs.Common.{◌≡◌, ℕ, ◌+◌, ◌≤◌, ◌<◌, List, [], ◌∷◌, ◌++◌, IfSome, length, subst, length-append, arith}
use Rattle.std.specs.List.{AllByRecursion}
use Rattle.cool_syntax.specs.declared.place.Place.{Place}
use Rattle.cool_syntax.specs.declared.node.Node.{Node}
use Rattle.cool_syntax.specs.declared.node.NodeId.{NodeId}
use Rattle.cool_syntax.specs.Tree.{Leaf, Unary, Binary, Call, Tree, Trees, MaybeTree, Cases, Last, More, Without, With, NoCase, CaseOf, tree_size, trees_size, maybe_size, cases_size}
use Rattle.cool_syntax.specs.Tree as trees
use Rattle.cool_syntax.proofs.TreesHaveNodes.{one_le_size}
use Rattle.cool_syntax.specs.NodeLists.{root, root_of_maybe, roots, branch_roots, leaf_node, unary_node, binary_node, call_node, nodes, nodes_of_all, nodes_of_maybe, nodes_of_cases, HasPartsBelow, Ordered}
use Rattle.cool_syntax.proofs.TreesOfLists.{length-nodes, length-nodes_of_all, length-nodes_of_maybe, length-nodes_of_cases}

-- `Ordered`, as a fact whose list shows
record IsOrdered (k : ℕ) (ns : List Node) : Type 0 where
  all : Ordered k ns

-- two lists in order are one in order, numbered on
ordered_append : (ns ms : List Node) (k l : ℕ) → l ≡ k + length ns → Ordered k ns → Ordered l ms → Ordered k (ns ++ ms)
ordered_append [] ms k l e o p = let q : l ≡ k = omega arith in subst (λ j. Ordered j ms) q p
ordered_append (n ∷ ns) ms k l e o p = (o.0, ordered_append ns ms (k + 1) l (omega arith) o.1 p)

-- one more node, whose parts are there
pub ordered_push : (ns : List Node) (n : Node) → Ordered 0 ns → HasPartsBelow (length ns) n → Ordered 0 (ns ++ n ∷ [])
ordered_push ns n o h = ordered_append ns (n ∷ []) 0 (length ns) (omega arith) o (h, tt)

-- the same, of the facts
ordered_join : {ns ms : List Node} {k : ℕ} (l : ℕ) → IsOrdered k ns → l ≡ k + length ns → IsOrdered l ms → IsOrdered k (ns ++ ms)
ordered_join {ns} {ms} {k} l o e p = record { all = ordered_append ns ms k l e o.all p.all }

-- one node whose parts are below it
ordered_node : {k : ℕ} {n : Node} → HasPartsBelow k n → IsOrdered k (n ∷ [])
ordered_node h = record { all = (h, tt) }

-- roots have numbers below the end of their lists
root_below : (t : Tree) (base k : ℕ) → base + tree_size t ≤ k → (root base t).0 < k
root_below t base k h = omega (arith, one_le_size t)

-- the roots of trees in order
roots_below : (ts : Trees) (base k : ℕ) → base + trees_size ts ≤ k → AllByRecursion (λ c. c.0 < k) (roots base ts)
roots_below Last base k h = tt
roots_below (More t ts) base k h = (root_below t base k (omega arith), roots_below ts (base + tree_size t) k (omega arith))

-- and so has that of a tree or none
maybe_below : (o : MaybeTree) (base k : ℕ) → base + maybe_size o ≤ k → IfSome (root_of_maybe base o) (λ c. c.0 < k)
maybe_below Without base k h = tt
maybe_below (With t) base k h = root_below t base k h

-- the roots of the branches of a case
branch_roots_below : (cs : Cases) (base k : ℕ) → base + cases_size cs ≤ k → AllByRecursion (λ b. b.body.0 < k) (branch_roots base cs)
branch_roots_below NoCase base k h = tt
branch_roots_below (CaseOf at name declared t cs) base k h =
    (root_below t base k (omega arith), branch_roots_below cs (base + tree_size t) k (omega arith))

-- the parts of the node of a form
leaf_below : (k : ℕ) (at : Place) (form : Leaf) → HasPartsBelow k (leaf_node at form)
leaf_below k at (trees.new class) = tt
leaf_below k at _ = tt

unary_below : {k : ℕ} (at : Place) (form : Unary) (a : NodeId) → a.0 < k → HasPartsBelow k (unary_node at form a)
unary_below at (trees.assign name) a h = h
unary_below at _ a h = h

binary_below : {k : ℕ} (at : Place) (form : Binary) (a b : NodeId) → a.0 < k → b.0 < k → HasPartsBelow k (binary_node at form a b)
binary_below at (trees.arith op) a b h g = (h, g)
binary_below at _ a b h g = (h, g)

call_below : {k : ℕ} (at : Place) (form : Call) (a : NodeId) (ids : List NodeId) → a.0 < k → AllByRecursion (λ c. c.0 < k) ids → HasPartsBelow k (call_node at form a ids)
call_below at (trees.dynamic name) a ids h g = (h, g)
call_below at _ a ids h g = (h, g)

-- the list of a tree is in order
mutual
  ordered : (t : Tree) (base : ℕ) → IsOrdered base (nodes base t)
  ordered (trees.leaf at form) base = ordered_node (leaf_below _ at form)
  ordered (trees.unary at form a) base =
      ordered_join (base + tree_size a) (ordered a base) (omega (arith, length-nodes a base)) (ordered_node (unary_below at form _ (root_below a base (base + tree_size a) (omega arith))))
  ordered (trees.binary at form a b) base =
      ordered_join (base + tree_size a + tree_size b) (ordered_join (base + tree_size a) (ordered a base) (omega (arith, length-nodes a base)) (ordered b (base + tree_size a))) (omega (arith, length-append (nodes base a) (nodes (base + tree_size a) b), length-nodes a base, length-nodes b (base + tree_size a))) (ordered_node (binary_below at form _ _ (root_below a base (base + tree_size a + tree_size b) (omega arith)) (root_below b (base + tree_size a) (base + tree_size a + tree_size b) (omega arith))))
  ordered (trees.call at form a ts) base =
      ordered_join (base + tree_size a + trees_size ts) (ordered_join (base + tree_size a) (ordered a base) (omega (arith, length-nodes a base)) (ordered_all ts (base + tree_size a))) (omega (arith, length-append (nodes base a) (nodes_of_all (base + tree_size a) ts), length-nodes a base, length-nodes_of_all ts (base + tree_size a))) (ordered_node (call_below at form _ _ (root_below a base (base + tree_size a + trees_size ts) (omega arith)) (roots_below ts (base + tree_size a) (base + tree_size a + trees_size ts) (omega arith))))
  ordered (trees.If at a b c) base =
      ordered_join (base + tree_size a + tree_size b + tree_size c) (ordered_join (base + tree_size a + tree_size b) (ordered_join (base + tree_size a) (ordered a base) (omega (arith, length-nodes a base)) (ordered b (base + tree_size a))) (omega (arith, length-append (nodes base a) (nodes (base + tree_size a) b), length-nodes a base, length-nodes b (base + tree_size a))) (ordered c (base + tree_size a + tree_size b))) (omega (arith, length-append (nodes base a ++ nodes (base + tree_size a) b) (nodes (base + tree_size a + tree_size b) c), length-append (nodes base a) (nodes (base + tree_size a) b), length-nodes a base, length-nodes b (base + tree_size a), length-nodes c (base + tree_size a + tree_size b))) (ordered_node (root_below a base (base + tree_size a + tree_size b + tree_size c) (omega arith), root_below b (base + tree_size a) (base + tree_size a + tree_size b + tree_size c) (omega arith), root_below c (base + tree_size a + tree_size b) (base + tree_size a + tree_size b + tree_size c) (omega arith)))
  ordered (trees.Block at ts) base =
      ordered_join (base + trees_size ts) (ordered_all ts base) (omega (arith, length-nodes_of_all ts base)) (ordered_node (roots_below ts base (base + trees_size ts) (omega arith)))
  ordered (trees.Let at name declared o a) base =
      ordered_join (base + maybe_size o + tree_size a) (ordered_join (base + maybe_size o) (ordered_maybe o base) (omega (arith, length-nodes_of_maybe o base)) (ordered a (base + maybe_size o))) (omega (arith, length-append (nodes_of_maybe base o) (nodes (base + maybe_size o) a), length-nodes_of_maybe o base, length-nodes a (base + maybe_size o))) (ordered_node (maybe_below o base (base + maybe_size o + tree_size a) (omega arith), root_below a (base + maybe_size o) (base + maybe_size o + tree_size a) (omega arith)))
  ordered (trees.Case at a cs) base =
      ordered_join (base + tree_size a + cases_size cs) (ordered_join (base + tree_size a) (ordered a base) (omega (arith, length-nodes a base)) (ordered_cases cs (base + tree_size a))) (omega (arith, length-append (nodes base a) (nodes_of_cases (base + tree_size a) cs), length-nodes a base, length-nodes_of_cases cs (base + tree_size a))) (ordered_node (root_below a base (base + tree_size a + cases_size cs) (omega arith), branch_roots_below cs (base + tree_size a) (base + tree_size a + cases_size cs) (omega arith)))

  ordered_all : (ts : Trees) (base : ℕ) → IsOrdered base (nodes_of_all base ts)
  ordered_all Last base = record { all = tt }
  ordered_all (More t ts) base =
      ordered_join (base + tree_size t) (ordered t base) (omega (arith, length-nodes t base)) (ordered_all ts (base + tree_size t))

  ordered_maybe : (o : MaybeTree) (base : ℕ) → IsOrdered base (nodes_of_maybe base o)
  ordered_maybe Without base = record { all = tt }
  ordered_maybe (With t) base = ordered t base

  ordered_cases : (cs : Cases) (base : ℕ) → IsOrdered base (nodes_of_cases base cs)
  ordered_cases NoCase base = record { all = tt }
  ordered_cases (CaseOf at name declared t cs) base =
      ordered_join (base + tree_size t) (ordered t base) (omega (arith, length-nodes t base)) (ordered_cases cs (base + tree_size t))

-- the parts of each node of a tree's list stand before it
pub ordered-nodes : (t : Tree) (base : ℕ) → Ordered base (nodes base t)
ordered-nodes t base = (ordered t base).all
