-- The list of nodes of a tree holds the same string constants as the tree: the tree's nodes, case branches and string bytes are together the sum over the nodes
-- of the list.
use Rattle.std.proofs.Common.{◌≡◌, ℕ, ◌+◌, List, [], ◌∷◌, ◌++◌, length, refl, sym, ◌∙◌, ap, arith}
use Rattle.cool_syntax.specs.declared.node.Node.{Node}
use Rattle.cool_syntax.specs.declared.node.Node.TheVariants as node
use Rattle.cool_syntax.specs.declared.node.NodeId.{NodeId}
use Rattle.cool_syntax.specs.declared.place.Place.{Place}
use Rattle.cool_syntax.specs.Tree.{Leaf, Unary, Binary, Call, Tree, Trees, MaybeTree, Cases, Last, More, Without, With, NoCase, CaseOf, string_or, tree_size, maybe_size}
use Rattle.cool_syntax.specs.Tree as trees
use Rattle.cool_syntax.specs.NodeLists.{leaf_node, unary_node, binary_node, call_node, root, root_of_maybe, roots, branch_roots, nodes, nodes_of_all, nodes_of_maybe, nodes_of_cases, tree_of, IsPostorder}
use Rattle.cool_syntax.specs.FeatureSizes.{branches_in}
use Rattle.cool_syntax.specs.Weights.{text_in, text_in_all, text_in_maybe, text_in_cases}
use Rattle.cool_syntax.proofs.TreesOfLists.{tree_of-nodes}
use Rattle.cool_parser.proofs.WeightsOfNodes.{node_weight, weight, weight-placed, body_weight}

-- the bytes of a node's own string
abbrev pub node_text : Node → ℕ
node_text (node.Str at bytes) = length bytes
node_text _ = 0

abbrev pub texts : List Node → ℕ
texts [] = 0
texts (n ∷ ns) = node_text n + texts ns

-- the texts of two lists
texts-append : (ns ms : List Node) → texts (ns ++ ms) ≡ texts ns + texts ms
texts-append [] ms = omega arith
texts-append (n ∷ ns) ms = omega (arith, texts-append ns ms)

-- one more node
texts-placed : (ns : List Node) (n : Node) → texts (ns ++ n ∷ []) ≡ texts ns + node_text n
texts-placed ns n = omega (arith, texts-append ns (n ∷ []))

-- the list of one part, and then a node with no string
after_one : (a : List Node) (n : Node) (x : ℕ) → node_text n ≡ 0 → texts a ≡ x → texts (a ++ n ∷ []) ≡ x
after_one a n x w e = omega (arith, w, e, texts-placed a n)

-- the lists of two parts
after_two : (a b : List Node) (n : Node) (x y : ℕ) → node_text n ≡ 0 → texts a ≡ x → texts b ≡ y → texts (a ++ b ++ n ∷ []) ≡ x + y
after_two a b n x y w e f = omega (arith, w, e, f, texts-placed (a ++ b) n, texts-append a b)

-- the lists of three parts
after_three : (a b c : List Node) (n : Node) (x y z : ℕ) → node_text n ≡ 0 → texts a ≡ x → texts b ≡ y → texts c ≡ z → texts (a ++ b ++ c ++ n ∷ []) ≡ x + y + z
after_three a b c n x y z w e f g = omega (arith, w, e, f, g, texts-placed (a ++ b ++ c) n, texts-append (a ++ b) c, texts-append a b)

-- the node of a form without parts has the bytes of the form, and that of the others none
leaf_text : (at : Place) (form : Leaf) → node_text (leaf_node at form) ≡ string_or 0 (λ bytes. length bytes) form
leaf_text at (trees.new class) = refl
leaf_text at _ = refl

unary_text : (at : Place) (form : Unary) (a : NodeId) → node_text (unary_node at form a) ≡ 0
unary_text at trees.not a = refl
unary_text at _ a = refl

binary_text : (at : Place) (form : Binary) (a b : NodeId) → node_text (binary_node at form a b) ≡ 0
binary_text at trees.while a b = refl
binary_text at _ a b = refl

call_text : (at : Place) (form : Call) (a : NodeId) (ids : List NodeId) → node_text (call_node at form a ids) ≡ 0
call_text at (trees.dynamic name) a ids = refl
call_text at (trees.static class name) a ids = refl

mutual
  -- the list of a tree has its bytes
  texts-nodes : (t : Tree) (base : ℕ) → texts (nodes base t) ≡ text_in t
  texts-nodes (trees.leaf at form) base = omega (arith, leaf_text at form)
  texts-nodes (trees.unary at form a) base = after_one (nodes base a) (unary_node at form (root base a)) _ (unary_text at form (root base a)) (texts-nodes a base)
  texts-nodes (trees.binary at form a b) base =
      let n = binary_node at form (root base a) (root (base + tree_size a) b) in
      after_two (nodes base a) (nodes (base + tree_size a) b) n _ _ (binary_text at form (root base a) (root (base + tree_size a) b)) (texts-nodes a base) (texts-nodes b (base + tree_size a))
  texts-nodes (trees.call at form a ts) base =
      let n = call_node at form (root base a) (roots (base + tree_size a) ts) in
      after_two (nodes base a) (nodes_of_all (base + tree_size a) ts) n _ _ (call_text at form (root base a) (roots (base + tree_size a) ts)) (texts-nodes a base) (texts-nodes_of_all ts (base + tree_size a))
  texts-nodes (trees.If at a b c) base =
      after_three (nodes base a) (nodes (base + tree_size a) b) (nodes (base + tree_size a + tree_size b) c) (node.If at (root base a) (root (base + tree_size a) b) (root (base + tree_size a + tree_size b) c)) _ _ _ refl
      (texts-nodes a base) (texts-nodes b (base + tree_size a)) (texts-nodes c (base + tree_size a + tree_size b))
  texts-nodes (trees.Block at ts) base = after_one (nodes_of_all base ts) (node.Block at (roots base ts)) _ refl (texts-nodes_of_all ts base)
  texts-nodes (trees.Let at name declared o a) base =
      after_two (nodes_of_maybe base o) (nodes (base + maybe_size o) a) (node.Let at name declared (root_of_maybe base o) (root (base + maybe_size o) a)) _ _ refl (texts-nodes_of_maybe o base) (texts-nodes a (base + maybe_size o))
  texts-nodes (trees.Case at a cs) base =
      after_two (nodes base a) (nodes_of_cases (base + tree_size a) cs) (node.Case at (root base a) (branch_roots (base + tree_size a) cs)) _ _ refl (texts-nodes a base) (texts-nodes_of_cases cs (base + tree_size a))

  -- the lists of some trees have their bytes
  texts-nodes_of_all : (ts : Trees) (base : ℕ) → texts (nodes_of_all base ts) ≡ text_in_all ts
  texts-nodes_of_all Last base = refl
  texts-nodes_of_all (More t ts) base =
      omega (arith, texts-append (nodes base t) (nodes_of_all (base + tree_size t) ts), texts-nodes t base, texts-nodes_of_all ts (base + tree_size t))

  -- the list of a tree that is there has its bytes
  texts-nodes_of_maybe : (o : MaybeTree) (base : ℕ) → texts (nodes_of_maybe base o) ≡ text_in_maybe o
  texts-nodes_of_maybe Without base = refl
  texts-nodes_of_maybe (With t) base = texts-nodes t base

  -- the lists of branches have their bytes
  texts-nodes_of_cases : (cs : Cases) (base : ℕ) → texts (nodes_of_cases base cs) ≡ text_in_cases cs
  texts-nodes_of_cases NoCase base = refl
  texts-nodes_of_cases (CaseOf at name declared t cs) base =
      omega (arith, texts-append (nodes base t) (nodes_of_cases (base + tree_size t) cs), texts-nodes t base, texts-nodes_of_cases cs (base + tree_size t))

-- the weight of a node, with the bytes of its string
abbrev pub node_burden : Node → ℕ
node_burden n = node_weight n + node_text n

abbrev pub burden : List Node → ℕ
burden ns = weight ns + texts ns

-- one more node
pub burden-placed : (ns : List Node) (n : Node) → burden (ns ++ n ∷ []) ≡ burden ns + node_burden n
burden-placed ns n = omega (arith, weight-placed ns n, texts-placed ns n)

-- the nodes, branches and bytes of a body are together the weight of its nodes
pub body_burden : (ns : List Node) → IsPostorder ns → tree_size (tree_of ns) + branches_in (tree_of ns) + text_in (tree_of ns) ≡ burden ns
body_burden ns (t, e) =
    let text : text_in (tree_of ns) ≡ texts ns = ap text_in (ap tree_of e ∙ tree_of-nodes t) ∙ sym (texts-nodes t 0) ∙ ap texts (sym e) in
    omega (arith, text, body_weight ns (t, e))
