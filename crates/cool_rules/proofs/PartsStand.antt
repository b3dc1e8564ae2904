-- If the nodes of an expression are among those of a feature's expression, and their types in the list of its types, the number of the root node gives the
-- expression, its node and its type. The same holds of its subexpressions.
use Rattle.std.proofs.Common.{◌≡◌, ℕ, ◌+◌, ◌-◌, ◌<◌, List, [], ◌∷◌, ◌++◌, Some, length, get_or, refl, sym, ◌∙◌, ap, subst, append_assoc, append-nil, length-append, arith}
use Rattle.std.specs.Prelude.{slice_get}
use Rattle.std.proofs.lemmas.List.{get_or-append_right}
use Rattle.std.proofs.lemmas.Option.{same_Some, slice_get_read}
use Rattle.cool_syntax.specs.declared.node.Node.{Node}
use Rattle.cool_syntax.specs.declared.node.Node.TheVariants as node
use Rattle.cool_syntax.specs.declared.node.NodeId.{NodeId}
use Rattle.cool_syntax.specs.declared.place.Place.{Place}
use Rattle.cool_syntax.specs.Tree.{Binary, Call, Tree, Trees, MaybeTree, Cases, Last, More, Without, With, NoCase, CaseOf, tree_size, maybe_size}
use Rattle.cool_syntax.specs.Tree as trees
use Rattle.cool_syntax.specs.Bare.{nowhere}
use Rattle.cool_syntax.proofs.TreesHaveNodes.{one_le_size}
use Rattle.cool_syntax.specs.NodeLists.{leaf_node, unary_node, binary_node, call_node, root, root_of_maybe, roots, branch_roots, nodes, nodes_of_all, nodes_of_maybe, nodes_of_cases, grown, made, tree_at, all_trees}
use Rattle.cool_syntax.proofs.TreesOfLists.{parts, length-parts, length-nodes, length-nodes_of_maybe, grown-nodes, all_trees-parts, tree_of-nodes}
use Rattle.cool_syntax.proofs.TreesAtNumbers.{grown-keeps}
use Rattle.cool_classes.specs.declared.class_id.Ty.{Ty}
use Rattle.cool_rules.specs.NodeTypes.{node_types, part_types, types_of_all, types_of_maybe, types_of_cases}
use Rattle.cool_rules.specs.Rules.{type_meant}
use Rattle.cool_rules.specs.Scopes.{Binding}
use Rattle.cool_rules.specs.StaticTypes.{type_of}
use Rattle.cool_rules.specs.TypedParts.{TypedBody, Lies, IsPart, AreParts, MayBePart, AreBranches, HasParts}
use Rattle.cool_rules.specs.Typing.{with_name}
use Rattle.cool_rules.proofs.LengthsOfTypes.{length-node_types, length-types_of_maybe}

-- the nodes of a tree stand among nodes after so many others
abbrev pub Stands : List Node → ℕ → Tree → Type 0
Stands ns k t = Lies ns k (nodes k t)

-- the trees of nodes after nodes come after theirs
grown-append : (ns ms : List Node) (ts : List Tree) → grown ts (ns ++ ms) ≡ grown (grown ts ns) ms
grown-append [] ms ts = refl
grown-append (n ∷ ns) ms ts = grown-append ns ms (ts ++ made ts n ∷ [])

-- each node has a tree
length-grown : (ns : List Node) (ts : List Tree) → length (grown ts ns) ≡ length ts + length ns
length-grown [] ts = omega arith
length-grown (n ∷ ns) ts = omega (arith, length-grown ns (ts ++ made ts n ∷ []), length-append ts (made ts n ∷ []))

-- the last of the trees of a tree's nodes is the tree
last_part : (t : Tree) → get_or (parts t) (tree_size t - 1) (trees.Int nowhere 0) ≡ t
last_part t = sym (λ i. get_or (all_trees-parts t i) (length-nodes t 0 i - 1) (trees.Int nowhere 0)) ∙ tree_of-nodes t

-- the tree at the number of a root
pub tree_there : (b : Tree) (k : ℕ) (t : Tree) → Stands (nodes 0 b) k t → tree_at b (root k t) ≡ t
tree_there b k t s =
    let before = s.before in
    let long : length (grown [] s.front) ≡ k = omega (arith, length-grown s.front []) in
    let all : all_trees b ≡ grown (grown [] s.front ++ parts t) s.back =
    ap (grown []) s.is ∙ grown-append s.front (nodes k t ++ s.back) [] ∙ grown-nodes t k (grown [] s.front) s.back (sym long) in
    ap (λ ts. get_or ts (k + tree_size t - 1) (trees.Int nowhere 0)) all
    ∙ grown-keeps s.back (grown [] s.front ++ parts t) (k + tree_size t - 1) (trees.Int nowhere 0) (omega (arith, length-append (grown [] s.front) (parts t), length-parts t, one_le_size t))
    ∙ get_or-append_right (grown [] s.front) (parts t) k (k + tree_size t - 1) (trees.Int nowhere 0) long (omega (arith, one_le_size t))
    ∙ ap (λ j. get_or (parts t) j (trees.Int nowhere 0)) (omega (arith, one_le_size t))
    ∙ last_part t

-- the node of a tree whose list begins at this number
abbrev pub top : ℕ → Tree → Node
top k (trees.leaf at form) = leaf_node at form
top k (trees.unary at form t) = unary_node at form (root k t)
top k (trees.binary at form l r) = binary_node at form (root k l) (root (k + tree_size l) r)
top k (trees.call at form t ts) = call_node at form (root k t) (roots (k + tree_size t) ts)
top k (trees.If at t y n) = node.If at (root k t) (root (k + tree_size t) y) (root (k + tree_size t + tree_size y) n)
top k (trees.Block at ts) = node.Block at (roots k ts)
top k (trees.Let at name declared o t) = node.Let at name declared (root_of_maybe k o) (root (k + maybe_size o) t)
top k (trees.Case at t cs) = node.Case at (root k t) (branch_roots (k + tree_size t) cs)

-- it is the last of the list
top_last : (t : Tree) (k : ℕ) → (ns : List Node) × (nodes k t ≡ ns ++ top k t ∷ [])
top_last (trees.leaf at form) k = ([], refl)
top_last (trees.unary at form a) k = (nodes k a, refl)
top_last (trees.binary at form l r) k = (nodes k l ++ nodes (k + tree_size l) r, refl)
top_last (trees.call at form a ts) k = (nodes k a ++ nodes_of_all (k + tree_size a) ts, refl)
top_last (trees.If at a y n) k = (nodes k a ++ nodes (k + tree_size a) y ++ nodes (k + tree_size a + tree_size y) n, refl)
top_last (trees.Block at ts) k = (nodes_of_all k ts, refl)
top_last (trees.Let at name declared o a) k = (nodes_of_maybe k o ++ nodes (k + maybe_size o) a, refl)
top_last (trees.Case at a cs) k = (nodes k a ++ nodes_of_cases (k + tree_size a) cs, refl)

-- an item of a list, by its place
item_at : {A : Type 0} (xs : List A) (x : A) (ys : List A) (k : ℕ) → length xs ≡ k → slice_get (xs ++ x ∷ ys) k ≡ Some x
item_at xs x ys k e =
    slice_get_read (xs ++ x ∷ ys) (length (xs ++ x ∷ ys)) k x refl (omega (arith, length-append xs (x ∷ ys)))
    (sym (get_or-append_right xs (x ∷ ys) k k x e (omega arith) ∙ ap (λ j. get_or (x ∷ ys) j x) none))
  where
    none : k - k ≡ 0
    none = omega arith

-- the node at the number of a root
node_there : (b : Tree) (k : ℕ) (t : Tree) → Stands (nodes 0 b) k t → slice_get (nodes 0 b) (root k t).0 ≡ Some (top k t)
node_there b k t s =
    let before = s.before in
    let q = top_last t k in
    let l : length (nodes k t) ≡ length (q.0 ++ top k t ∷ []) = ap length q.1 in
    let g : s.front ++ ((q.0 ++ top k t ∷ []) ++ s.back) ≡ (s.front ++ q.0) ++ top k t ∷ s.back = simp append_assoc in
    let r : nodes 0 b ≡ (s.front ++ q.0) ++ top k t ∷ s.back = s.is ∙ ap (λ us. s.front ++ (us ++ s.back)) q.1 ∙ g in
    ap (λ ns. slice_get ns (root k t).0) r
    ∙ item_at (s.front ++ q.0) (top k t) s.back (root k t).0 (omega (arith, length-append s.front q.0, length-append q.0 (top k t ∷ []), length-nodes t k))

-- Lists that stand in a list

-- a list that stands somewhere stands there in two parts
left_part : {A : Type 0} {ns : List A} {k : ℕ} (xs ys : List A) → Lies ns k (xs ++ ys) → Lies ns k xs
left_part xs ys s = record { front = s.front; back = ys ++ s.back; before = s.before; is = s.is ∙ ap (λ zs. s.front ++ zs) (append_assoc xs ys s.back) }

right_part : {A : Type 0} {ns : List A} {k : ℕ} (xs ys : List A) (j : ℕ) → k + length xs ≡ j → Lies ns k (xs ++ ys) → Lies ns j ys
right_part xs ys j e s =
    let before = s.before in
    record {
      front = s.front ++ xs;
      back = s.back;
      before = omega (arith, length-append s.front xs);
      is = s.is ∙ ap (λ zs. s.front ++ zs) (append_assoc xs ys s.back) ∙ sym (append_assoc s.front xs (ys ++ s.back));
    }

-- and in three, of which the first two have so many items
three_parts : {A : Type 0} {ns : List A} {k : ℕ} (xs ys zs : List A) (m n : ℕ) → length xs ≡ m → length ys ≡ n → Lies ns k (xs ++ ys ++ zs) → Lies ns k xs × Lies ns (k + m) ys × Lies ns (k + m + n) zs
three_parts {A} {ns} {k} xs ys zs m n e f s =
    let both = left_part (xs ++ ys) zs s in
    (left_part xs ys both, right_part xs ys (k + m) (omega arith) both, right_part (xs ++ ys) zs (k + m + n) (omega (arith, length-append xs ys)) s)

two_parts : {A : Type 0} {ns : List A} {k : ℕ} (xs ys : List A) (m : ℕ) → length xs ≡ m → Lies ns k (xs ++ ys) → Lies ns k xs × Lies ns (k + m) ys
two_parts {A} {ns} {k} xs ys m e s = (left_part xs ys s, right_part xs ys (k + m) (omega arith) s)

-- Nodes

-- the first one of trees in order, and the others
pub first_stands : {ns : List Node} {k : ℕ} (t : Tree) (ts : Trees) → Lies ns k (nodes_of_all k (More t ts)) → Stands ns k t
first_stands {ns} {k} t ts s = left_part (nodes k t) (nodes_of_all (k + tree_size t) ts) s

pub others_stand : {ns : List Node} {k : ℕ} (t : Tree) (ts : Trees) → Lies ns k (nodes_of_all k (More t ts)) → Lies ns (k + tree_size t) (nodes_of_all (k + tree_size t) ts)
others_stand {ns} {k} t ts s = right_part (nodes k t) (nodes_of_all (k + tree_size t) ts) (k + tree_size t) (omega (arith, length-nodes t k)) s

-- the first one of branches in order, and the others
pub first_branch_stands : {ns : List Node} {k : ℕ} (t : Tree) (cs : Cases) → Lies ns k (nodes k t ++ nodes_of_cases (k + tree_size t) cs) → Stands ns k t
first_branch_stands {ns} {k} t cs s = left_part (nodes k t) (nodes_of_cases (k + tree_size t) cs) s

pub other_branches_stand : {ns : List Node} {k : ℕ} (t : Tree) (cs : Cases) → Lies ns k (nodes k t ++ nodes_of_cases (k + tree_size t) cs) → Lies ns (k + tree_size t) (nodes_of_cases (k + tree_size t) cs)
other_branches_stand {ns} {k} t cs s = right_part (nodes k t) (nodes_of_cases (k + tree_size t) cs) (k + tree_size t) (omega (arith, length-nodes t k)) s

-- the parts of a form with trees in order, with one part, two parts, and three
pub all_stand : {ns : List Node} {k : ℕ} (ts : Trees) (n : Node) → Lies ns k (nodes_of_all k ts ++ n ∷ []) → Lies ns k (nodes_of_all k ts)
all_stand {ns} {k} ts n s = left_part (nodes_of_all k ts) (n ∷ []) s

pub one_stands : {ns : List Node} {k : ℕ} (t : Tree) (n : Node) → Lies ns k (nodes k t ++ n ∷ []) → Stands ns k t
one_stands {ns} {k} t n s = left_part (nodes k t) (n ∷ []) s

pub two_stand : {ns : List Node} {k : ℕ} (t : Tree) (ms : List Node) (n : Node) → Lies ns k (nodes k t ++ ms ++ n ∷ []) → Stands ns k t × Lies ns (k + tree_size t) ms
two_stand {ns} {k} t ms n s = two_parts (nodes k t) ms (tree_size t) (length-nodes t k) (left_part (nodes k t ++ ms) (n ∷ []) s)

pub maybe_stands : {ns : List Node} {k : ℕ} (o : MaybeTree) (t : Tree) (n : Node) → Lies ns k (nodes_of_maybe k o ++ nodes (k + maybe_size o) t ++ n ∷ []) → Lies ns k (nodes_of_maybe k o) × Stands ns (k + maybe_size o) t
maybe_stands {ns} {k} o t n s =
    two_parts (nodes_of_maybe k o) (nodes (k + maybe_size o) t) (maybe_size o) (length-nodes_of_maybe o k) (left_part (nodes_of_maybe k o ++ nodes (k + maybe_size o) t) (n ∷ []) s)

pub three_stand : {ns : List Node} {k : ℕ} (t y e : Tree) (n : Node) → Lies ns k (nodes k t ++ nodes (k + tree_size t) y ++ nodes (k + tree_size t + tree_size y) e ++ n ∷ [])
    → Stands ns k t × Stands ns (k + tree_size t) y × Stands ns (k + tree_size t + tree_size y) e
three_stand {ns} {k} t y e n s =
    three_parts (nodes k t) (nodes (k + tree_size t) y) (nodes (k + tree_size t + tree_size y) e) (tree_size t) (tree_size y) (length-nodes t k) (length-nodes y (k + tree_size t))
    (left_part (nodes k t ++ nodes (k + tree_size t) y ++ nodes (k + tree_size t + tree_size y) e) (n ∷ []) s)

-- the nodes of a body stand in it from the first on
pub whole_stands : {A : Type 0} (xs : List A) → Lies xs 0 xs
whole_stands xs = record { front = []; back = []; before = refl; is = simp append-nil refl }

-- Parts of a typed body

module _ (b : TypedBody) where
  -- the types of the nodes of a tree stand in the column after so many others
  abbrev Typed : List Binding → ℕ → Tree → Type 0
  Typed scope k t = Lies b.types k (node_types b.table b.class scope t)

  is_part : (scope : List Binding) (k : ℕ) (t : Tree) → Stands (nodes 0 b.body) k t → Typed scope k t → IsPart b scope (root k t)
  is_part scope k t s u = record { before = k; tree = t; stands = s; typed = u; number = refl }

  -- types of two parts of a form stand where its nodes do
  two_typed : {k : ℕ} (scope : List Binding) (t : Tree) (ys : List Ty) → Lies b.types k (node_types b.table b.class scope t ++ ys) → Typed scope k t × Lies b.types (k + tree_size t) ys
  two_typed scope t ys u = two_parts (node_types b.table b.class scope t) ys (tree_size t) (length-node_types b.table b.class scope t) u

  -- expressions whose nodes and types stand there are parts
  are_parts : (scope : List Binding) (k : ℕ) (ts : Trees) → Lies (nodes 0 b.body) k (nodes_of_all k ts) → Lies b.types k (types_of_all b.table b.class scope ts) → AreParts b scope (roots k ts)
  are_parts scope k Last s u = tt
  are_parts scope k (More t ts) s u =
      let types = two_typed scope t (types_of_all b.table b.class scope ts) u in
      (is_part scope k t (first_stands t ts s) types.0, are_parts scope (k + tree_size t) ts (others_stand t ts s) types.1)

  may_be_part : (scope : List Binding) (k : ℕ) (o : MaybeTree) → Lies (nodes 0 b.body) k (nodes_of_maybe k o) → Lies b.types k (types_of_maybe b.table b.class scope o) → MayBePart b scope (root_of_maybe k o)
  may_be_part scope k Without s u = tt
  may_be_part scope k (With t) s u = is_part scope k t s u

  are_branches : (scope : List Binding) (k : ℕ) (cs : Cases) → Lies (nodes 0 b.body) k (nodes_of_cases k cs) → Lies b.types k (types_of_cases b.table b.class scope cs) → AreBranches b scope (branch_roots k cs)
  are_branches scope k NoCase s u = tt
  are_branches scope k (CaseOf at name declared t cs) s u =
      let inner = with_name name (type_meant b.table declared.name) scope in
      let types = two_typed inner t (types_of_cases b.table b.class scope cs) u in
      (is_part inner k t (first_branch_stands t cs s) types.0, are_branches scope (k + tree_size t) cs (other_branches_stand t cs s) types.1)

  -- the node of a form with two parts has them, and that of a call
  two_there : (scope : List Binding) (at : Place) (form : Binary) (l r : NodeId) → IsPart b scope l → IsPart b scope r → HasParts b scope (binary_node at form l r)
  two_there scope at (trees.arith op) l r h g = (h, g)
  two_there scope at (trees.compare op) l r h g = (h, g)
  two_there scope at trees.while l r h g = (h, g)

  call_there : (scope : List Binding) (at : Place) (form : Call) (a : NodeId) (ids : List NodeId) → IsPart b scope a → AreParts b scope ids → HasParts b scope (call_node at form a ids)
  call_there scope at (trees.dynamic name) a ids h g = (h, g)
  call_there scope at (trees.static class name) a ids h g = (h, g)

  -- the parts of the node of an expression whose nodes and types stand there
  parts_are_parts : (scope : List Binding) (k : ℕ) (t : Tree) → Stands (nodes 0 b.body) k t → Lies b.types k (part_types b.table b.class scope t) → HasParts b scope (top k t)
  parts_are_parts scope k (trees.Assign at name t) s u = is_part scope k t (one_stands t _ s) u
  parts_are_parts scope k (trees.IsVoid at t) s u = is_part scope k t (one_stands t _ s) u
  parts_are_parts scope k (trees.Neg at t) s u = is_part scope k t (one_stands t _ s) u
  parts_are_parts scope k (trees.Not at t) s u = is_part scope k t (one_stands t _ s) u
  parts_are_parts scope k (trees.binary at form l r) s u =
      let two = two_stand l (nodes (k + tree_size l) r) _ s in
      let types = two_typed scope l (node_types b.table b.class scope r) u in
      two_there scope at form _ _ (is_part scope k l two.0 types.0) (is_part scope (k + tree_size l) r two.1 types.1)
  parts_are_parts scope k (trees.call at form t ts) s u =
      let two = two_stand t (nodes_of_all (k + tree_size t) ts) _ s in
      let types = two_typed scope t (types_of_all b.table b.class scope ts) u in
      call_there scope at form _ _ (is_part scope k t two.0 types.0) (are_parts scope (k + tree_size t) ts two.1 types.1)
  parts_are_parts scope k (trees.If at t y n) s u =
      let all = three_stand t y n _ s in
      let types = three_parts (node_types b.table b.class scope t) (node_types b.table b.class scope y) (node_types b.table b.class scope n) (tree_size t) (tree_size y)
      (length-node_types b.table b.class scope t) (length-node_types b.table b.class scope y) u in
      (is_part scope k t all.0 types.0, is_part scope (k + tree_size t) y all.1 types.1, is_part scope (k + tree_size t + tree_size y) n all.2 types.2)
  parts_are_parts scope k (trees.Block at ts) s u = are_parts scope k ts (all_stand ts _ s) u
  parts_are_parts scope k (trees.Let at name declared o t) s u =
      let inner = with_name name (type_meant b.table declared.name) scope in
      let two = maybe_stands o t _ s in
      let types = two_parts (types_of_maybe b.table b.class scope o) (node_types b.table b.class inner t) (maybe_size o) (length-types_of_maybe b.table b.class scope o) u in
      (may_be_part scope k o two.0 types.0, is_part inner (k + maybe_size o) t two.1 types.1)
  parts_are_parts scope k (trees.Case at t cs) s u =
      let two = two_stand t (nodes_of_cases (k + tree_size t) cs) _ s in
      let types = two_typed scope t (types_of_cases b.table b.class scope cs) u in
      (is_part scope k t two.0 types.0, are_branches scope (k + tree_size t) cs two.1 types.1)
  parts_are_parts scope k (trees.New at class) s u = tt
  parts_are_parts scope k _ s u = tt

  module _ (scope : List Binding) (id : NodeId) where
    -- the expression at the number of a part
    part_is : (h : IsPart b scope id) → tree_at b.body id ≡ h.tree
    part_is h = ap (tree_at b.body) h.number ∙ tree_there b.body h.before h.tree h.stands

    -- its node
    pub part_node : (h : IsPart b scope id) → slice_get (nodes 0 b.body) id.0 ≡ Some (top h.before h.tree)
    part_node h = ap (λ (i : NodeId). slice_get (nodes 0 b.body) i.0) h.number ∙ node_there b.body h.before h.tree h.stands

    -- the parts of its node are parts
    pub has_parts : (n : Node) → IsPart b scope id → slice_get (nodes 0 b.body) id.0 ≡ Some n → HasParts b scope n
    has_parts n h e =
        let same : n ≡ top h.before h.tree = same_Some n (top h.before h.tree) (sym e ∙ part_node h) in
        let types = left_part (part_types b.table b.class scope h.tree) (type_of b.table b.class scope h.tree ∷ []) h.typed in
        subst (HasParts b scope) (sym same) (parts_are_parts scope h.before h.tree h.stands types)

    -- its number is one of the body
    pub part_within : IsPart b scope id → id.0 < tree_size b.body
    part_within h =
        let s = h.stands in
        let before = s.before in
        let number : id.0 ≡ h.before + tree_size h.tree - 1 = ap (λ (i : NodeId). i.0) h.number in
        let long : length (nodes 0 b.body) ≡ length (s.front ++ (nodes h.before h.tree ++ s.back)) = ap length s.is in
        omega (arith, length-nodes b.body 0, length-append s.front (nodes h.before h.tree ++ s.back), length-append (nodes h.before h.tree) s.back, length-nodes h.tree h.before, one_le_size h.tree)

    -- its type stands there in the column
    pub part_type : IsPart b scope id → slice_get b.types id.0 ≡ Some (type_of b.table b.class scope (tree_at b.body id))
    part_type h =
        let u = h.typed in
        let before = u.before in
        let parts = part_types b.table b.class scope h.tree in
        let own = type_of b.table b.class scope h.tree in
        let number : id.0 ≡ h.before + tree_size h.tree - 1 = ap (λ (i : NodeId). i.0) h.number in
        let long : length (parts ++ own ∷ []) ≡ tree_size h.tree = length-node_types b.table b.class scope h.tree in
        let g : u.front ++ ((parts ++ own ∷ []) ++ u.back) ≡ (u.front ++ parts) ++ own ∷ u.back = simp append_assoc in
        ap (λ (ts : List Ty). slice_get ts id.0) (u.is ∙ g)
        ∙ item_at (u.front ++ parts) own u.back id.0 (omega (arith, length-append u.front parts, length-append parts (own ∷ [])))
        ∙ sym (ap (λ (t : Tree). Some (type_of b.table b.class scope t)) (part_is h))

  -- the body is a part where the column is its own
  pub whole_is_part : (scope : List Binding) → b.types ≡ node_types b.table b.class scope b.body → IsPart b scope (root 0 b.body)
  whole_is_part scope e =
      is_part scope 0 b.body (whole_stands (nodes 0 b.body)) (subst (λ (ts : List Ty). Lies b.types 0 ts) e (whole_stands b.types))
