-- A syntax tree can be recovered from its list of nodes in postorder, and the list has one entry for each node of the tree.
use Rattle.std.proofs.Common.{◌≡◌, ℕ, ◌+◌, ◌-◌, List, [], ◌∷◌, ◌++◌, length, map, get_or, refl, sym, ◌∙◌, ap, append_assoc, append-nil, length-append, arith}
use Rattle.std.specs.Option.{option_map}
use Rattle.std.proofs.lemmas.List.{get_or_at}
use Rattle.cool_syntax.specs.declared.place.Place.{Place}
use Rattle.cool_syntax.specs.declared.node.Node.{Node}
use Rattle.cool_syntax.specs.declared.node.NodeId.{NodeId}
use Rattle.cool_syntax.specs.Tree.{Leaf, Unary, Binary, Call, Tree, Trees, MaybeTree, Cases, Last, More, Without, With, NoCase, CaseOf, tree_size, trees_size, maybe_size, cases_size, of_list, of_option, of_twigs}
use Rattle.cool_syntax.specs.Tree as trees
use Rattle.cool_syntax.specs.Bare.{nowhere}
use Rattle.cool_syntax.specs.NodeLists.{root, root_of_maybe, roots, branch_roots, leaf_node, unary_node, binary_node, call_node, nodes, nodes_of_all, nodes_of_maybe, nodes_of_cases, at_id, twig_at, made, grown, tree_of, all_trees}

-- the list of a tree has a node for each node of the tree
mutual
  pub length-nodes : (t : Tree) (base : ℕ) → length (nodes base t) ≡ tree_size t
  length-nodes (trees.leaf at form) base = refl
  length-nodes (trees.unary at form a) base = simp (length-append, length-nodes a base) (omega arith)
  length-nodes (trees.binary at form a b) base = simp (length-append, length-nodes a base, length-nodes b (base + tree_size a)) (omega arith)
  length-nodes (trees.call at form a ts) base = simp (length-append, length-nodes a base, length-nodes_of_all ts (base + tree_size a)) (omega arith)
  length-nodes (trees.If at a b c) base = simp (length-append, length-nodes a base, length-nodes b (base + tree_size a), length-nodes c (base + tree_size a + tree_size b)) (omega arith)
  length-nodes (trees.Block at ts) base = simp (length-append, length-nodes_of_all ts base) (omega arith)
  length-nodes (trees.Let at name declared o a) base = simp (length-append, length-nodes_of_maybe o base, length-nodes a (base + maybe_size o)) (omega arith)
  length-nodes (trees.Case at a cs) base = simp (length-append, length-nodes a base, length-nodes_of_cases cs (base + tree_size a)) (omega arith)

  pub length-nodes_of_all : (ts : Trees) (base : ℕ) → length (nodes_of_all base ts) ≡ trees_size ts
  length-nodes_of_all Last base = refl
  length-nodes_of_all (More t ts) base = simp (length-append, length-nodes t base, length-nodes_of_all ts (base + tree_size t)) (omega arith)

  pub length-nodes_of_maybe : (o : MaybeTree) (base : ℕ) → length (nodes_of_maybe base o) ≡ maybe_size o
  length-nodes_of_maybe Without base = refl
  length-nodes_of_maybe (With t) base = length-nodes t base

  pub length-nodes_of_cases : (cs : Cases) (base : ℕ) → length (nodes_of_cases base cs) ≡ cases_size cs
  length-nodes_of_cases NoCase base = refl
  length-nodes_of_cases (CaseOf at name declared t cs) base =
      simp (length-append, length-nodes t base, length-nodes_of_cases cs (base + tree_size t)) (omega arith)

-- the trees of all nodes of a tree, in the order of the nodes
abbrev mutual
  pub parts : Tree → List Tree
  parts (trees.leaf at form) = trees.leaf at form ∷ []
  parts (trees.unary at form a) = parts a ++ trees.unary at form a ∷ []
  parts (trees.binary at form a b) = parts a ++ parts b ++ trees.binary at form a b ∷ []
  parts (trees.call at form a ts) = parts a ++ parts_of_all ts ++ trees.call at form a ts ∷ []
  parts (trees.If at a b c) = parts a ++ parts b ++ parts c ++ trees.If at a b c ∷ []
  parts (trees.Block at ts) = parts_of_all ts ++ trees.Block at ts ∷ []
  parts (trees.Let at name declared o a) = parts_of_maybe o ++ parts a ++ trees.Let at name declared o a ∷ []
  parts (trees.Case at a cs) = parts a ++ parts_of_cases cs ++ trees.Case at a cs ∷ []

  pub parts_of_all : Trees → List Tree
  parts_of_all Last = []
  parts_of_all (More t ts) = parts t ++ parts_of_all ts

  pub parts_of_maybe : MaybeTree → List Tree
  parts_of_maybe Without = []
  parts_of_maybe (With t) = parts t

  pub parts_of_cases : Cases → List Tree
  parts_of_cases NoCase = []
  parts_of_cases (CaseOf at name declared t cs) = parts t ++ parts_of_cases cs

-- there are as many as the tree has nodes
mutual
  pub length-parts : (t : Tree) → length (parts t) ≡ tree_size t
  length-parts (trees.leaf at form) = refl
  length-parts (trees.unary at form a) = simp (length-append, length-parts a) (omega arith)
  length-parts (trees.binary at form a b) = simp (length-append, length-parts a, length-parts b) (omega arith)
  length-parts (trees.call at form a ts) = simp (length-append, length-parts a, length-parts_of_all ts) (omega arith)
  length-parts (trees.If at a b c) = simp (length-append, length-parts a, length-parts b, length-parts c) (omega arith)
  length-parts (trees.Block at ts) = simp (length-append, length-parts_of_all ts) (omega arith)
  length-parts (trees.Let at name declared o a) = simp (length-append, length-parts_of_maybe o, length-parts a) (omega arith)
  length-parts (trees.Case at a cs) = simp (length-append, length-parts a, length-parts_of_cases cs) (omega arith)

  pub length-parts_of_all : (ts : Trees) → length (parts_of_all ts) ≡ trees_size ts
  length-parts_of_all Last = refl
  length-parts_of_all (More t ts) = simp (length-append, length-parts t, length-parts_of_all ts) (omega arith)

  pub length-parts_of_maybe : (o : MaybeTree) → length (parts_of_maybe o) ≡ maybe_size o
  length-parts_of_maybe Without = refl
  length-parts_of_maybe (With t) = length-parts t

  pub length-parts_of_cases : (cs : Cases) → length (parts_of_cases cs) ≡ cases_size cs
  length-parts_of_cases NoCase = refl
  length-parts_of_cases (CaseOf at name declared t cs) = simp (length-append, length-parts t, length-parts_of_cases cs) (omega arith)

-- the last of them is the tree
parts_end : (t : Tree) → (us : List Tree) × (parts t ≡ us ++ t ∷ [])
parts_end (trees.leaf at form) = ([], refl)
parts_end (trees.unary at form a) = (parts a, refl)
parts_end (trees.binary at form a b) = (parts a ++ parts b, refl)
parts_end (trees.call at form a ts) = (parts a ++ parts_of_all ts, refl)
parts_end (trees.If at a b c) = (parts a ++ parts b ++ parts c, refl)
parts_end (trees.Block at ts) = (parts_of_all ts, refl)
parts_end (trees.Let at name declared o a) = (parts_of_maybe o ++ parts a, refl)
parts_end (trees.Case at a cs) = (parts a ++ parts_of_cases cs, refl)

-- the number of trees before a tree and its nodes
next : (ts us : List Tree) (base n : ℕ) → base ≡ length ts → length us ≡ n → base + n ≡ length (ts ++ us)
next ts us base n e p = omega (arith, length-append ts us)

-- among trees that have those of a tree in them, the number of its root gives the tree
at_root : (t : Tree) (ws front back : List Tree) (base : ℕ) → base ≡ length front → ws ≡ front ++ (parts t ++ back) → at_id ws (root base t) ≡ t
at_root t ws front back base e p =
    let q = parts_end t in
    let l : length (parts t) ≡ length (q.0 ++ t ∷ []) = ap length q.1 in
    let g : front ++ ((q.0 ++ t ∷ []) ++ back) ≡ (front ++ q.0) ++ t ∷ back = simp append_assoc in
    let r : ws ≡ (front ++ q.0) ++ t ∷ back = p ∙ ap (λ us. front ++ (us ++ back)) q.1 ∙ g in
    ap (λ us. get_or us (base + tree_size t - 1) (trees.Int nowhere 0)) r
    ∙ get_or_at (front ++ q.0) t back (trees.Int nowhere 0) (base + tree_size t - 1) (omega (arith, length-append front q.0, length-append q.0 (t ∷ []), length-parts t))

-- and so do the numbers of the roots of trees in order
at_roots : (ts : Trees) (ws front back : List Tree) (base : ℕ) → base ≡ length front → ws ≡ front ++ (parts_of_all ts ++ back) → of_list (map (at_id ws) (roots base ts)) ≡ ts
at_roots Last ws front back base e p = refl
at_roots (More t ts) ws front back base e p =
    let f : front ++ ((parts t ++ parts_of_all ts) ++ back) ≡ front ++ (parts t ++ (parts_of_all ts ++ back)) = simp append_assoc in
    let s : front ++ ((parts t ++ parts_of_all ts) ++ back) ≡ (front ++ parts t) ++ (parts_of_all ts ++ back) = simp append_assoc in
    let a = at_root t ws front (parts_of_all ts ++ back) base e (p ∙ f) in
    let b = at_roots ts ws (front ++ parts t) back (base + tree_size t) (next front (parts t) base _ e (length-parts t)) (p ∙ s) in
    λ i. More (a i) (b i)

-- for a tree or none
at_root_of_maybe : (o : MaybeTree) (ws front back : List Tree) (base : ℕ) → base ≡ length front → ws ≡ front ++ (parts_of_maybe o ++ back) → of_option (option_map (at_id ws) (root_of_maybe base o)) ≡ o
at_root_of_maybe Without ws front back base e p = refl
at_root_of_maybe (With t) ws front back base e p = ap With (at_root t ws front back base e p)

-- and of the branches of a case
at_branch_roots : (cs : Cases) (ws front back : List Tree) (base : ℕ) → base ≡ length front → ws ≡ front ++ (parts_of_cases cs ++ back) → of_twigs (map (twig_at ws) (branch_roots base cs)) ≡ cs
at_branch_roots NoCase ws front back base e p = refl
at_branch_roots (CaseOf at name declared t cs) ws front back base e p =
    let f : front ++ ((parts t ++ parts_of_cases cs) ++ back) ≡ front ++ (parts t ++ (parts_of_cases cs ++ back)) = simp append_assoc in
    let s : front ++ ((parts t ++ parts_of_cases cs) ++ back) ≡ (front ++ parts t) ++ (parts_of_cases cs ++ back) = simp append_assoc in
    let a = at_root t ws front (parts_of_cases cs ++ back) base e (p ∙ f) in
    let b = at_branch_roots cs ws (front ++ parts t) back (base + tree_size t) (next front (parts t) base _ e (length-parts t)) (p ∙ s) in
    λ i. CaseOf at name declared (a i) (b i)

-- after these trees, the trees of these nodes are those
record Grows (ts : List Tree) (ns : List Node) (us : List Tree) : Type 0 where
  all : (ms : List Node) → grown ts (ns ++ ms) ≡ grown (ts ++ us) ms

-- no nodes have no trees
grows_none : {ts : List Tree} → Grows ts [] []
grows_none {ts} = record { all = λ ms. ap (λ us. grown us ms) (sym (append-nil ts)) }

-- one node has the tree that is made of it
grows_node : {ts : List Tree} {n : Node} {t : Tree} → made ts n ≡ t → Grows ts (n ∷ []) (t ∷ [])
grows_node {ts} {n} {t} e = record { all = λ ms. ap (λ u. grown (ts ++ u ∷ []) ms) e }

-- nodes after nodes have their trees after those trees
grows_join : {ts us vs : List Tree} {ns ms : List Node} → Grows ts ns us → Grows (ts ++ us) ms vs → Grows ts (ns ++ ms) (us ++ vs)
grows_join {ts} {us} {vs} {ns} {ms} g h = record { all = λ rest. ap (grown ts) (append_assoc ns ms rest) ∙ g.all (ms ++ rest) ∙ h.all rest ∙ ap (λ ws. grown ws rest) (append_assoc ts us vs) }

-- the tree of the node of a form
leaf_made : (ts : List Tree) (at : Place) (form : Leaf) → made ts (leaf_node at form) ≡ trees.leaf at form
leaf_made ts at (trees.new class) = refl
leaf_made ts at _ = refl

unary_made : (ts : List Tree) (at : Place) (form : Unary) (a : NodeId) → made ts (unary_node at form a) ≡ trees.unary at form (at_id ts a)
unary_made ts at (trees.assign name) a = refl
unary_made ts at _ a = refl

binary_made : (ts : List Tree) (at : Place) (form : Binary) (a b : NodeId) → made ts (binary_node at form a b) ≡ trees.binary at form (at_id ts a) (at_id ts b)
binary_made ts at (trees.arith op) a b = refl
binary_made ts at _ a b = refl

call_made : (ts : List Tree) (at : Place) (form : Call) (a : NodeId) (ids : List NodeId) → made ts (call_node at form a ids) ≡ trees.call at form (at_id ts a) (of_list (map (at_id ts) ids))
call_made ts at (trees.dynamic name) a ids = refl
call_made ts at _ a ids = refl

-- the trees of a tree's list are its parts
mutual
  grows : (t : Tree) (base : ℕ) (ts : List Tree) → base ≡ length ts → Grows ts (nodes base t) (parts t)
  grows (trees.leaf at form) base front e = grows_node (leaf_made front at form)
  grows (trees.unary at form a) base front e =
      let r0 : front ++ (parts a) ≡ front ++ (parts a ++ []) = simp append-nil in
      let p0 = at_root a (front ++ (parts a)) front [] base e r0 in
      grows_join (grows a base front e) (grows_node (unary_made _ at form (root base a) ∙ (λ i. trees.unary at form (p0 i))))
  grows (trees.binary at form a b) base front e =
      let e1 : base + tree_size a ≡ length (front ++ parts a) = omega (arith, length-append front (parts a), length-parts a) in
      let r0 : front ++ (parts a ++ parts b) ≡ front ++ (parts a ++ (parts b)) = refl in
      let p0 = at_root a (front ++ (parts a ++ parts b)) front (parts b) base e r0 in
      let r1 : front ++ (parts a ++ parts b) ≡ (front ++ parts a) ++ (parts b ++ []) = simp (append_assoc, append-nil) in
      let p1 = at_root b (front ++ (parts a ++ parts b)) (front ++ parts a) [] (base + tree_size a) e1 r1 in
      grows_join (grows_join (grows a base front e) (grows b (base + tree_size a) (front ++ parts a) e1)) (grows_node (binary_made _ at form (root base a) (root (base + tree_size a) b) ∙ (λ i. trees.binary at form (p0 i) (p1 i))))
  grows (trees.call at form a ts) base front e =
      let e1 : base + tree_size a ≡ length (front ++ parts a) = omega (arith, length-append front (parts a), length-parts a) in
      let r0 : front ++ (parts a ++ parts_of_all ts) ≡ front ++ (parts a ++ (parts_of_all ts)) = refl in
      let p0 = at_root a (front ++ (parts a ++ parts_of_all ts)) front (parts_of_all ts) base e r0 in
      let r1 : front ++ (parts a ++ parts_of_all ts) ≡ (front ++ parts a) ++ (parts_of_all ts ++ []) = simp (append_assoc, append-nil) in
      let p1 = at_roots ts (front ++ (parts a ++ parts_of_all ts)) (front ++ parts a) [] (base + tree_size a) e1 r1 in
      grows_join (grows_join (grows a base front e) (grows_all ts (base + tree_size a) (front ++ parts a) e1)) (grows_node (call_made _ at form (root base a) (roots (base + tree_size a) ts) ∙ (λ i. trees.call at form (p0 i) (p1 i))))
  grows (trees.If at a b c) base front e =
      let e1 : base + tree_size a ≡ length (front ++ parts a) = omega (arith, length-append front (parts a), length-parts a) in
      let e2 : base + tree_size a + tree_size b ≡ length (front ++ (parts a ++ parts b)) = omega (arith, length-append front (parts a ++ parts b), length-append (parts a) (parts b), length-parts a, length-parts b) in
      let r0 : front ++ (parts a ++ parts b ++ parts c) ≡ front ++ (parts a ++ (parts b ++ parts c)) = simp append_assoc in
      let p0 = at_root a (front ++ (parts a ++ parts b ++ parts c)) front (parts b ++ parts c) base e r0 in
      let r1 : front ++ (parts a ++ parts b ++ parts c) ≡ (front ++ parts a) ++ (parts b ++ (parts c)) = simp append_assoc in
      let p1 = at_root b (front ++ (parts a ++ parts b ++ parts c)) (front ++ parts a) (parts c) (base + tree_size a) e1 r1 in
      let r2 : front ++ (parts a ++ parts b ++ parts c) ≡ (front ++ (parts a ++ parts b)) ++ (parts c ++ []) = simp (append_assoc, append-nil) in
      let p2 = at_root c (front ++ (parts a ++ parts b ++ parts c)) (front ++ (parts a ++ parts b)) [] (base + tree_size a + tree_size b) e2 r2 in
      grows_join (grows_join (grows_join (grows a base front e) (grows b (base + tree_size a) (front ++ parts a) e1)) (grows c (base + tree_size a + tree_size b) (front ++ (parts a ++ parts b)) e2)) (grows_node (λ i. trees.If at (p0 i) (p1 i) (p2 i)))
  grows (trees.Block at ts) base front e =
      let r0 : front ++ (parts_of_all ts) ≡ front ++ (parts_of_all ts ++ []) = simp append-nil in
      let p0 = at_roots ts (front ++ (parts_of_all ts)) front [] base e r0 in
      grows_join (grows_all ts base front e) (grows_node (λ i. trees.Block at (p0 i)))
  grows (trees.Let at name declared o a) base front e =
      let e1 : base + maybe_size o ≡ length (front ++ parts_of_maybe o) = omega (arith, length-append front (parts_of_maybe o), length-parts_of_maybe o) in
      let r0 : front ++ (parts_of_maybe o ++ parts a) ≡ front ++ (parts_of_maybe o ++ (parts a)) = refl in
      let p0 = at_root_of_maybe o (front ++ (parts_of_maybe o ++ parts a)) front (parts a) base e r0 in
      let r1 : front ++ (parts_of_maybe o ++ parts a) ≡ (front ++ parts_of_maybe o) ++ (parts a ++ []) = simp (append_assoc, append-nil) in
      let p1 = at_root a (front ++ (parts_of_maybe o ++ parts a)) (front ++ parts_of_maybe o) [] (base + maybe_size o) e1 r1 in
      grows_join (grows_join (grows_maybe o base front e) (grows a (base + maybe_size o) (front ++ parts_of_maybe o) e1)) (grows_node (λ i. trees.Let at name declared (p0 i) (p1 i)))
  grows (trees.Case at a cs) base front e =
      let e1 : base + tree_size a ≡ length (front ++ parts a) = omega (arith, length-append front (parts a), length-parts a) in
      let r0 : front ++ (parts a ++ parts_of_cases cs) ≡ front ++ (parts a ++ (parts_of_cases cs)) = refl in
      let p0 = at_root a (front ++ (parts a ++ parts_of_cases cs)) front (parts_of_cases cs) base e r0 in
      let r1 : front ++ (parts a ++ parts_of_cases cs) ≡ (front ++ parts a) ++ (parts_of_cases cs ++ []) = simp (append_assoc, append-nil) in
      let p1 = at_branch_roots cs (front ++ (parts a ++ parts_of_cases cs)) (front ++ parts a) [] (base + tree_size a) e1 r1 in
      grows_join (grows_join (grows a base front e) (grows_cases cs (base + tree_size a) (front ++ parts a) e1)) (grows_node (λ i. trees.Case at (p0 i) (p1 i)))

  grows_all : (ts : Trees) (base : ℕ) (front : List Tree) → base ≡ length front → Grows front (nodes_of_all base ts) (parts_of_all ts)
  grows_all Last base front e = grows_none
  grows_all (More t ts) base front e =
      grows_join (grows t base front e) (grows_all ts (base + tree_size t) (front ++ parts t) (next front (parts t) base _ e (length-parts t)))

  grows_maybe : (o : MaybeTree) (base : ℕ) (front : List Tree) → base ≡ length front → Grows front (nodes_of_maybe base o) (parts_of_maybe o)
  grows_maybe Without base front e = grows_none
  grows_maybe (With t) base front e = grows t base front e

  grows_cases : (cs : Cases) (base : ℕ) (front : List Tree) → base ≡ length front → Grows front (nodes_of_cases base cs) (parts_of_cases cs)
  grows_cases NoCase base front e = grows_none
  grows_cases (CaseOf at name declared t cs) base front e =
      grows_join (grows t base front e) (grows_cases cs (base + tree_size t) (front ++ parts t) (next front (parts t) base _ e (length-parts t)))

-- the same, before more nodes
pub grown-nodes : (t : Tree) (base : ℕ) (ts : List Tree) (ns : List Node) → base ≡ length ts → grown ts (nodes base t ++ ns) ≡ grown (ts ++ parts t) ns
grown-nodes t base ts ns e = (grows t base ts e).all ns

-- the trees of all nodes of a tree's list
pub all_trees-parts : (t : Tree) → all_trees t ≡ parts t
all_trees-parts t = ap (grown []) (sym (append-nil (nodes 0 t))) ∙ grown-nodes t 0 [] [] refl

-- the tree of a tree's list is the tree
pub tree_of-nodes : (t : Tree) → tree_of (nodes 0 t) ≡ t
tree_of-nodes t =
    let e : at_id (parts t) (record { 0 = tree_size t - 1 }) ≡ at_id (parts t) (root 0 t) = ap (λ k. get_or (parts t) k (trees.Int nowhere 0)) (omega arith) in
    rw (all_trees-parts t, length-nodes t 0) (e ∙ at_root t (parts t) [] [] 0 refl (sym (append-nil (parts t))))
