-- The weight of a tree's list of nodes is the number of the tree's nodes and case branches: a node weighs one, and one more for each branch of its own.
use Rattle.std.proofs.Common.{◌≡◌, ℕ, ◌+◌, List, [], ◌∷◌, ◌++◌, length, refl, sym, ◌∙◌, ap, arith}
use Rattle.cool_syntax.specs.declared.node.Node.{Node}
use Rattle.cool_syntax.specs.declared.node.Node.TheVariants as node
use Rattle.cool_syntax.specs.declared.node.NodeId.{NodeId}
use Rattle.cool_syntax.specs.declared.place.Place.{Place}
use Rattle.cool_syntax.specs.Tree.{Leaf, Unary, Binary, Call, Tree, Trees, MaybeTree, Cases, Last, More, Without, With, NoCase, CaseOf, tree_size, trees_size, maybe_size, cases_size}
use Rattle.cool_syntax.specs.Tree as trees
use Rattle.cool_syntax.specs.NodeLists.{leaf_node, unary_node, binary_node, call_node, root, root_of_maybe, roots, branch_roots, nodes, nodes_of_all, nodes_of_maybe, nodes_of_cases, tree_of, IsPostorder}
use Rattle.cool_syntax.proofs.TreesOfLists.{tree_of-nodes}
use Rattle.cool_syntax.specs.FeatureSizes.{branches_in, branches_in_all, branches_in_maybe, branches_of}

abbrev pub node_weight : Node → ℕ
node_weight (node.Case at a bs) = 1 + length bs
node_weight _ = 1

abbrev pub weight : List Node → ℕ
weight [] = 0
weight (n ∷ ns) = node_weight n + weight ns

pub weight-append : (ns ms : List Node) → weight (ns ++ ms) ≡ weight ns + weight ms
weight-append [] ms = omega arith
weight-append (n ∷ ns) ms = omega (arith, weight-append ns ms)

-- one more node
pub weight-placed : (ns : List Node) (n : Node) → weight (ns ++ n ∷ []) ≡ weight ns + node_weight n
weight-placed ns n = omega (arith, weight-append ns (n ∷ []))

-- the lists of one, of two and of three parts, and then a node that weighs one
after_one : (a : List Node) (n : Node) (x : ℕ) → node_weight n ≡ 1 → weight a ≡ x → weight (a ++ n ∷ []) ≡ x + 1
after_one a n x w e = omega (arith, w, e, weight-placed a n)

after_two : (a b : List Node) (n : Node) (x y : ℕ) → node_weight n ≡ 1 → weight a ≡ x → weight b ≡ y → weight (a ++ b ++ n ∷ []) ≡ x + y + 1
after_two a b n x y w e f = omega (arith, w, e, f, weight-placed (a ++ b) n, weight-append a b)

after_three : (a b c : List Node) (n : Node) (x y z : ℕ) → node_weight n ≡ 1 → weight a ≡ x → weight b ≡ y → weight c ≡ z
    → weight (a ++ b ++ c ++ n ∷ []) ≡ x + y + z + 1
after_three a b c n x y z w e f g = omega (arith, w, e, f, g, weight-placed (a ++ b ++ c) n, weight-append (a ++ b) c, weight-append a b)

-- the node of each kind of forms weighs one
leaf_weight : (at : Place) (form : Leaf) → node_weight (leaf_node at form) ≡ 1
leaf_weight at (trees.new class) = refl
leaf_weight at _ = refl

unary_weight : (at : Place) (form : Unary) (a : NodeId) → node_weight (unary_node at form a) ≡ 1
unary_weight at trees.not a = refl
unary_weight at _ a = refl

binary_weight : (at : Place) (form : Binary) (a b : NodeId) → node_weight (binary_node at form a b) ≡ 1
binary_weight at trees.while a b = refl
binary_weight at _ a b = refl

call_weight : (at : Place) (form : Call) (a : NodeId) (ids : List NodeId) → node_weight (call_node at form a ids) ≡ 1
call_weight at (trees.dynamic name) a ids = refl
call_weight at (trees.static class name) a ids = refl

mutual
  weight-nodes : (t : Tree) (base : ℕ) → weight (nodes base t) ≡ tree_size t + branches_in t
  weight-nodes (trees.leaf at form) base = omega (arith, leaf_weight at form)
  weight-nodes (trees.unary at form a) base = after_one (nodes base a) (unary_node at form (root base a)) _ (unary_weight at form (root base a)) (weight-nodes a base) ∙ omega arith
  weight-nodes (trees.binary at form a b) base =
      let n = binary_node at form (root base a) (root (base + tree_size a) b) in
      after_two (nodes base a) (nodes (base + tree_size a) b) n _ _ (binary_weight at form (root base a) (root (base + tree_size a) b)) (weight-nodes a base) (weight-nodes b (base + tree_size a)) ∙ omega arith
  weight-nodes (trees.call at form a ts) base =
      let n = call_node at form (root base a) (roots (base + tree_size a) ts) in
      after_two (nodes base a) (nodes_of_all (base + tree_size a) ts) n _ _ (call_weight at form (root base a) (roots (base + tree_size a) ts)) (weight-nodes a base) (weight-nodes_of_all ts (base + tree_size a)) ∙ omega arith
  weight-nodes (trees.If at a b c) base =
      after_three (nodes base a) (nodes (base + tree_size a) b) (nodes (base + tree_size a + tree_size b) c) (node.If at (root base a) (root (base + tree_size a) b) (root (base + tree_size a + tree_size b) c)) _ _ _ refl
      (weight-nodes a base) (weight-nodes b (base + tree_size a)) (weight-nodes c (base + tree_size a + tree_size b)) ∙ omega arith
  weight-nodes (trees.Block at ts) base = after_one (nodes_of_all base ts) (node.Block at (roots base ts)) _ refl (weight-nodes_of_all ts base) ∙ omega arith
  weight-nodes (trees.Let at name declared o a) base =
      after_two (nodes_of_maybe base o) (nodes (base + maybe_size o) a) (node.Let at name declared (root_of_maybe base o) (root (base + maybe_size o) a)) _ _ refl (weight-nodes_of_maybe o base) (weight-nodes a (base + maybe_size o)) ∙ omega arith
  weight-nodes (trees.Case at a cs) base =
      let n = node.Case at (root base a) (branch_roots (base + tree_size a) cs) in
      omega (
        arith,
        weight-placed (nodes base a ++ nodes_of_cases (base + tree_size a) cs) n,
        weight-append (nodes base a) (nodes_of_cases (base + tree_size a) cs),
        weight-nodes a base,
        weight-nodes_of_cases cs (base + tree_size a),
      )

  weight-nodes_of_all : (ts : Trees) (base : ℕ) → weight (nodes_of_all base ts) ≡ trees_size ts + branches_in_all ts
  weight-nodes_of_all Last base = refl
  weight-nodes_of_all (More t ts) base =
      omega (arith, weight-append (nodes base t) (nodes_of_all (base + tree_size t) ts), weight-nodes t base, weight-nodes_of_all ts (base + tree_size t))

  weight-nodes_of_maybe : (o : MaybeTree) (base : ℕ) → weight (nodes_of_maybe base o) ≡ maybe_size o + branches_in_maybe o
  weight-nodes_of_maybe Without base = refl
  weight-nodes_of_maybe (With t) base = weight-nodes t base

  weight-nodes_of_cases : (cs : Cases) (base : ℕ) → weight (nodes_of_cases base cs) + length (branch_roots base cs) ≡ cases_size cs + branches_of cs
  weight-nodes_of_cases NoCase base = refl
  weight-nodes_of_cases (CaseOf at name declared t cs) base =
      omega (arith, weight-append (nodes base t) (nodes_of_cases (base + tree_size t) cs), weight-nodes t base, weight-nodes_of_cases cs (base + tree_size t))

-- the nodes and branches of a body are together the weight of its nodes
pub body_weight : (ns : List Node) → IsPostorder ns → tree_size (tree_of ns) + branches_in (tree_of ns) ≡ weight ns
body_weight ns (t, e) =
    ap (λ u. tree_size u + branches_in u) (ap tree_of e ∙ tree_of-nodes t) ∙ sym (weight-nodes t 0) ∙ ap weight (sym e)
