-- `nodes` lists the nodes of a syntax tree in postorder, `tree_of` recovers the tree from its list, and `tree_at` is the subtree whose root is at a given index
-- of the list.
use Rattle.std.specs.Prelude.{◌≡◌, ℕ, ◌+◌, ◌-◌, ◌<◌, List, [], ◌∷◌, ◌++◌, Option, Some, None, IfSome, length, map, get_or, refl}
use Rattle.std.specs.List.{AllByRecursion}
use Rattle.std.specs.Option.{option_map}
use Rattle.cool_syntax.specs.declared.place.Place.{Place}
use Rattle.cool_syntax.specs.declared.operator.ArithOp.TheVariants.{Add, Mul}
use Rattle.cool_syntax.specs.declared.node.Node.{Node}
use Rattle.cool_syntax.specs.declared.node.Node.TheVariants as node
use Rattle.cool_syntax.specs.declared.node.NodeId.{NodeId}
use Rattle.cool_syntax.specs.declared.node.NodeBranch.{NodeBranch}
use Rattle.cool_syntax.specs.Tree.{Leaf, Unary, Binary, Call, Tree, Trees, MaybeTree, Cases, Twig, Last, More, Without, With, NoCase, CaseOf, tree_size, maybe_size, of_list, of_option, of_twigs}
use Rattle.cool_syntax.specs.Tree as trees
use Rattle.cool_syntax.specs.Bare.{nowhere}

-- the number of the root of a tree whose list begins at this number: the last of the list
abbrev pub root : ℕ → Tree → NodeId
root base t = record { 0 = base + tree_size t - 1 }

abbrev pub root_of_maybe : ℕ → MaybeTree → Option NodeId
root_of_maybe base Without = None
root_of_maybe base (With t) = Some (root base t)

abbrev pub roots : ℕ → Trees → List NodeId
roots base Last = []
roots base (More t ts) = root base t ∷ roots (base + tree_size t) ts

abbrev pub branch_roots : ℕ → Cases → List NodeBranch
branch_roots base NoCase = []
branch_roots base (CaseOf at name declared t cs) =
    record { at = at; name = name; declared = declared; body = root base t } ∷ branch_roots (base + tree_size t) cs

-- the node of a form: without parts, with one, with two, and of a call
abbrev pub leaf_node : Place → Leaf → Node
leaf_node at (trees.new class) = node.New at class
leaf_node at (trees.id name) = node.Id at name
leaf_node at (trees.int value) = node.Int at value
leaf_node at (trees.str bytes) = node.Str at bytes
leaf_node at (trees.truth value) = node.Bool at value

abbrev pub unary_node : Place → Unary → NodeId → Node
unary_node at (trees.assign name) a = node.Assign at name a
unary_node at trees.isvoid a = node.IsVoid at a
unary_node at trees.neg a = node.Neg at a
unary_node at trees.not a = node.Not at a

abbrev pub binary_node : Place → Binary → NodeId → NodeId → Node
binary_node at (trees.arith op) a b = node.Arith at op a b
binary_node at (trees.compare op) a b = node.Compare at op a b
binary_node at trees.while a b = node.While at a b

abbrev pub call_node : Place → Call → NodeId → List NodeId → Node
call_node at (trees.dynamic name) a ids = node.Dispatch at a name ids
call_node at (trees.static class name) a ids = node.StaticDispatch at a class name ids

-- the list of a tree, numbered from a base: the parts in order, each with its own parts before it, and then the node
abbrev mutual
  pub nodes : ℕ → Tree → List Node
  nodes base (trees.leaf at form) = leaf_node at form ∷ []
  nodes base (trees.unary at form t) = nodes base t ++ unary_node at form (root base t) ∷ []
  nodes base (trees.binary at form a b) =
      nodes base a ++ nodes (base + tree_size a) b ++ binary_node at form (root base a) (root (base + tree_size a) b) ∷ []
  nodes base (trees.call at form t ts) =
      nodes base t ++ nodes_of_all (base + tree_size t) ts ++ call_node at form (root base t) (roots (base + tree_size t) ts) ∷ []
  nodes base (trees.If at t y n) =
      nodes base t ++ nodes (base + tree_size t) y ++ nodes (base + tree_size t + tree_size y) n
      ++ node.If at (root base t) (root (base + tree_size t) y) (root (base + tree_size t + tree_size y) n) ∷ []
  nodes base (trees.Block at ts) = nodes_of_all base ts ++ node.Block at (roots base ts) ∷ []
  nodes base (trees.Let at name declared o t) =
      nodes_of_maybe base o ++ nodes (base + maybe_size o) t
      ++ node.Let at name declared (root_of_maybe base o) (root (base + maybe_size o) t) ∷ []
  nodes base (trees.Case at t cs) =
      nodes base t ++ nodes_of_cases (base + tree_size t) cs ++ node.Case at (root base t) (branch_roots (base + tree_size t) cs) ∷ []

  pub nodes_of_all : ℕ → Trees → List Node
  nodes_of_all base Last = []
  nodes_of_all base (More t ts) = nodes base t ++ nodes_of_all (base + tree_size t) ts

  pub nodes_of_maybe : ℕ → MaybeTree → List Node
  nodes_of_maybe base Without = []
  nodes_of_maybe base (With t) = nodes base t

  pub nodes_of_cases : ℕ → Cases → List Node
  nodes_of_cases base NoCase = []
  nodes_of_cases base (CaseOf at name declared t cs) = nodes base t ++ nodes_of_cases (base + tree_size t) cs

-- the nodes are the list of a tree
abbrev pub IsPostorder : List Node → Type 0
IsPostorder ns = (t : Tree) × (ns ≡ nodes 0 t)

-- the tree at a number in a list of the trees of all nodes; past the end of the list, an arbitrary tree
abbrev pub at_id : List Tree → NodeId → Tree
at_id ts id = get_or ts id.0 (trees.Int nowhere 0)

abbrev pub twig_at : List Tree → NodeBranch → Twig
twig_at ts b = record { at = b.at; name = b.name; declared = b.declared; body = at_id ts b.body }

-- the tree of a node, by the trees of the nodes before it
abbrev pub made : List Tree → Node → Tree
made ts (node.Assign at name a) = trees.Assign at name (at_id ts a)
made ts (node.Dispatch at a name ids) = trees.Dispatch at (at_id ts a) name (of_list (map (at_id ts) ids))
made ts (node.StaticDispatch at a class name ids) =
    trees.StaticDispatch at (at_id ts a) class name (of_list (map (at_id ts) ids))
made ts (node.If at a b c) = trees.If at (at_id ts a) (at_id ts b) (at_id ts c)
made ts (node.While at a b) = trees.While at (at_id ts a) (at_id ts b)
made ts (node.Block at ids) = trees.Block at (of_list (map (at_id ts) ids))
made ts (node.Let at name declared o a) = trees.Let at name declared (of_option (option_map (at_id ts) o)) (at_id ts a)
made ts (node.Case at a bs) = trees.Case at (at_id ts a) (of_twigs (map (twig_at ts) bs))
made ts (node.New at class) = trees.New at class
made ts (node.IsVoid at a) = trees.IsVoid at (at_id ts a)
made ts (node.Arith at op a b) = trees.Arith at op (at_id ts a) (at_id ts b)
made ts (node.Neg at a) = trees.Neg at (at_id ts a)
made ts (node.Compare at op a b) = trees.Compare at op (at_id ts a) (at_id ts b)
made ts (node.Not at a) = trees.Not at (at_id ts a)
made ts (node.Id at name) = trees.Id at name
made ts (node.Int at value) = trees.Int at value
made ts (node.Str at bytes) = trees.Str at bytes
made ts (node.Bool at value) = trees.Bool at value

-- the trees `ts` of earlier nodes, followed by the trees of these nodes
abbrev pub grown : List Tree → List Node → List Tree
grown ts [] = ts
grown ts (n ∷ ns) = grown (ts ++ made ts n ∷ []) ns

-- the tree of a list of nodes: that of its last node
abbrev pub tree_of : List Node → Tree
tree_of ns = at_id (grown [] ns) (record { 0 = length ns - 1 })

-- the trees of all nodes of a tree's list, and the one at a number
abbrev pub all_trees : Tree → List Tree
all_trees t = grown [] (nodes 0 t)

abbrev pub tree_at : Tree → NodeId → Tree
tree_at t id = at_id (all_trees t) id

-- the trees of parts of a body: of a node, of numbers, of a number that may be missing, and of branches
abbrev pub tree_of_node : Tree → Node → Tree
tree_of_node body n = made (all_trees body) n

abbrev pub trees_of : Tree → List NodeId → Trees
trees_of body ids = of_list (map (at_id (all_trees body)) ids)

abbrev pub maybe_tree_of : Tree → Option NodeId → MaybeTree
maybe_tree_of body id = of_option (option_map (at_id (all_trees body)) id)

abbrev pub cases_of : Tree → List NodeBranch → Cases
cases_of body branches = of_twigs (map (twig_at (all_trees body)) branches)

-- the parts of the node have numbers below this one
abbrev pub HasPartsBelow : ℕ → Node → Type 0
HasPartsBelow k (node.Assign at name a) = a.0 < k
HasPartsBelow k (node.Dispatch at a name ids) = (a.0 < k) × AllByRecursion (λ c. c.0 < k) ids
HasPartsBelow k (node.StaticDispatch at a class name ids) = (a.0 < k) × AllByRecursion (λ c. c.0 < k) ids
HasPartsBelow k (node.If at a b c) = (a.0 < k) × (b.0 < k) × (c.0 < k)
HasPartsBelow k (node.While at a b) = (a.0 < k) × (b.0 < k)
HasPartsBelow k (node.Block at ids) = AllByRecursion (λ c. c.0 < k) ids
HasPartsBelow k (node.Let at name declared o a) = IfSome o (λ c. c.0 < k) × (a.0 < k)
HasPartsBelow k (node.Case at a bs) = (a.0 < k) × AllByRecursion (λ b. b.body.0 < k) bs
HasPartsBelow k (node.New at class) = Unit {0}
HasPartsBelow k (node.IsVoid at a) = a.0 < k
HasPartsBelow k (node.Arith at op a b) = (a.0 < k) × (b.0 < k)
HasPartsBelow k (node.Neg at a) = a.0 < k
HasPartsBelow k (node.Compare at op a b) = (a.0 < k) × (b.0 < k)
HasPartsBelow k (node.Not at a) = a.0 < k
HasPartsBelow k (node.Id at name) = Unit {0}
HasPartsBelow k (node.Int at value) = Unit {0}
HasPartsBelow k (node.Str at bytes) = Unit {0}
HasPartsBelow k (node.Bool at value) = Unit {0}

-- The nodes are numbered from `k`, and the parts of each node come before it.
abbrev pub Ordered : ℕ → List Node → Type 0
Ordered k [] = Unit {0}
Ordered k (n ∷ ns) = HasPartsBelow k n × Ordered (k + 1) ns

-- Worked examples: the list of `1 + 2 * 3`, with each part's numbers, and the tree that the list gives back.
abbrev sum : Place → Tree
sum p = trees.Arith p Add (trees.Int p 1) (trees.Arith p Mul (trees.Int p 2) (trees.Int p 3))

abbrev sum_nodes : Place → List Node
sum_nodes p =
    node.Int p 1 ∷ node.Int p 2 ∷ node.Int p 3
    ∷ node.Arith p Mul (record { 0 = 1 }) (record { 0 = 2 })
    ∷ node.Arith p Add (record { 0 = 0 }) (record { 0 = 3 })
    ∷ []

sum_is_listed : (p : Place) → nodes 0 (sum p) ≡ sum_nodes p
sum_is_listed p = refl

sum_is_found : (p : Place) → tree_of (sum_nodes p) ≡ sum p
sum_is_found p = refl

-- the list of `x.f(y)`: the receiver, the argument, and the dispatch, whose name is 102
dispatch_is_listed : (p : Place) → nodes 0 (trees.Dispatch p (trees.Id p (120 ∷ [])) (102 ∷ []) (More (trees.Id p (121 ∷ [])) Last))
    ≡ node.Id p (120 ∷ []) ∷ node.Id p (121 ∷ []) ∷ node.Dispatch p (record { 0 = 0 }) (102 ∷ []) (record { 0 = 1 } ∷ []) ∷ []
dispatch_is_listed p = refl
