-- The node that a function of `place_form.rt`, such as `place_if`, appends after the nodes of the folded parts completes the nodes of the folded expression.
use Rattle.std.proofs.Common.{◌≡◌, ℕ, ◌+◌, List, [], ◌∷◌, ◌++◌, length, Option, Some, None, Bool as Truth, true, false, Ok, refl, sym, ap, ◌∙◌, append_assoc, length-append}
use Rattle.std.specs.Prelude.{Result, IfOk, OnOk, if◌then◌else◌, unwrap_or}
use Rattle.std.specs.Global.{Vec}
use Rattle.cool_syntax.specs.declared.node.Node.TheVariants as node
use Rattle.cool_syntax.specs.declared.node.NodeId.{NodeId}
use Rattle.cool_syntax.specs.declared.node.NodeBranch.{NodeBranch}
use Rattle.cool_syntax.specs.declared.place.Place.{Place}
use Rattle.cool_syntax.specs.declared.type_ref.TypeRef.{TypeRef}
use Rattle.cool_syntax.specs.Tree.{Tree, Trees, MaybeTree, Cases, tree_size, maybe_size}
use Rattle.cool_syntax.specs.Tree as trees
use Rattle.cool_syntax.specs.NodeLists.{nodes, nodes_of_all, nodes_of_maybe, nodes_of_cases, root, roots, root_of_maybe, branch_roots}
use Rattle.cool_syntax.proofs.TreesOfLists.{length-nodes_of_maybe}
use Rattle.cool_classes.specs.declared.class_id.ClassId.{ClassId}
use Rattle.cool_classes.specs.declared.class_id.Ty.{Ty}
use Rattle.cool_classes.specs.Chains.{name_of}
use Rattle.cool_rules.specs.Conformance.{class_of}
use Rattle.cool_rules.specs.NodeTypes.{types_of_all, types_of_cases, types_of_maybe}
use Rattle.cool_rules.specs.Rules.{join_in, same_type, type_meant}
use Rattle.cool_rules.specs.Scopes.{AreTypes, Binding}
use Rattle.cool_rules.specs.StaticTypes.{type_of}
use Rattle.cool_rules.specs.Typing.{with_name}
use Rattle.cool_fold.specs.declared.place.Found.{Found}
use Rattle.cool_fold.specs.declared.place.Placed.{Placed}
use Rattle.cool_fold.specs.declared.folding_setting.FoldingSetting.{FoldingSetting}
use Rattle.cool_fold.specs.Folding.{constant_in, is_redefined, truth_in}
use Rattle.cool_fold.specs.FoldingSettings.{IsSound}
use Rattle.cool_fold.specs.Shrinking.{shrunk, shrunk_all, shrunk_cases, shrunk_maybe, taken}
use Rattle.cool_fold.specs.FoldedNodes.{Folds, FoldsAll, FoldsCases, FoldsMaybe, HasTypes}
use Rattle.cool_fold.proofs.NodesPlaced.{more_nodes}
use Rattle.cool_fold.proofs.FoldedForms.{small_types, two_placed, two_typed}
use Rattle.cool_fold.proofs.FoldedRows.{stays_folds}
use Rattle.cool_fold.proofs.TypesPlaced.{still_typed, still_typed_maybe, types_later}

taken_none : {A B : Type 0} (o : Option Truth) (v w whole : Ty) (a b : A) (x y : B) → taken o v w whole a b ≡ None → taken o v w whole x y ≡ None
taken_none None v w whole a b x y e = refl
taken_none (Some true) v w whole a b x y e = by (same_type v whole) e
  where
    by : (t : Truth) → (if t then Some a else None) ≡ None → (if t then Some x else None) ≡ None
    by true e = absurd cc
    by false e = refl
taken_none (Some false) v w whole a b x y e = by (same_type w whole) e
  where
    by : (t : Truth) → (if t then Some b else None) ≡ None → (if t then Some y else None) ≡ None
    by true e = absurd cc
    by false e = refl

module _ (s : FoldingSetting) (scope : List Binding) where
  abbrev small : Tree → Tree
  small a = shrunk s.table.now s.class scope a

  abbrev small_all : Trees → Trees
  small_all es = shrunk_all s.table.now s.class scope es

  module _ {E : Type 0} (sound : IsSound s) (types : AreTypes s.table.now scope) (before after : Placed) where
    pub while_folds : (at : Place) (a b : Tree) (test body : NodeId) (type : Ty) (first second : Placed) (f g : Found) (answer : Result Found E)
        → type ≡ type_of s.table.now s.class scope (trees.While at a b) → test ≡ f.id → body ≡ g.id
        → Folds {E = E} s scope a before first (Ok f) → Folds {E = E} s scope b first second (Ok g)
        → OnOk answer (after.nodes.items ≡ second.nodes.items ++ node.While at test body ∷ []) → OnOk answer (after.types.held ≡ second.types.held ++ type ∷ [])
        → IfOk answer (λ r. r.constant ≡ None) → IfOk answer (λ r. r.id.0 ≡ length second.nodes.items)
        → Folds s scope (trees.While at a b) before after answer
    while_folds at a b test body type first second f g answer is_type tested looped h k =
        let n = length before.nodes.items in
        let more = more_nodes before.nodes.items first.nodes.items (small a) h.placed in
        let two = two_placed before.nodes.items first.nodes.items second.nodes.items (small a) (small b) h.placed k.placed in
        let i1 : test ≡ root n (small a) = tested ∙ h.id in
        let j : body ≡ root (n + tree_size (small a)) (small b) = looped ∙ k.id ∙ ap (λ (m : ℕ). root m (small b)) more in
        let made = node.While at (root n (small a)) (root (n + tree_size (small a)) (small b)) in
        stays_folds s scope (trees.While at a b) before after sound types type is_type (trees.While at (small a) (small b)) None refl refl second
        (node.While at test body) answer
        ((λ i. two i ++ node.While at (i1 i) (j i) ∷ [])
        ∙ append_assoc before.nodes.items (nodes n (small a) ++ nodes (n + tree_size (small a)) (small b)) (made ∷ []))
        (two_typed s scope {E = E} a b before first second f g h k)

    pub block_folds : (at : Place) (ids : List NodeId) (es : Trees) (items : Vec NodeId) (type : Ty) (mid : Placed) (answer : Result Found E)
        → type ≡ type_of s.table.now s.class scope (trees.Block at es) → ids ≡ items.items
        → FoldsAll {E = E} s scope es before mid (Ok items)
        → OnOk answer (after.nodes.items ≡ mid.nodes.items ++ node.Block at ids ∷ []) → OnOk answer (after.types.held ≡ mid.types.held ++ type ∷ [])
        → IfOk answer (λ r. r.constant ≡ None) → IfOk answer (λ r. r.id.0 ≡ length mid.nodes.items)
        → Folds s scope (trees.Block at es) before after answer
    block_folds at ids es items type mid answer is_type are h =
        let n = length before.nodes.items in
        let all = are ∙ h.ids in
        stays_folds s scope (trees.Block at es) before after sound types type is_type (trees.Block at (small_all es)) None refl refl mid
        (node.Block at ids) answer
        ((λ i. h.placed i ++ node.Block at (all i) ∷ []) ∙ append_assoc before.nodes.items (nodes_of_all n (small_all es))
        (node.Block at (roots n (small_all es)) ∷ []))
        h.typed

    pub case_folds : (at : Place) (a : Tree) (cs : Cases) (value : NodeId) (made_branches : List NodeBranch) (branches : Vec NodeBranch) (type : Ty)
        (first second : Placed) (f : Found) (answer : Result Found E)
        → type ≡ type_of s.table.now s.class scope (trees.Case at a cs) → value ≡ f.id → made_branches ≡ branches.items
        → Folds {E = E} s scope a before first (Ok f) → FoldsCases {E = E} s scope cs first second (Ok branches)
        → OnOk answer (after.nodes.items ≡ second.nodes.items ++ node.Case at value made_branches ∷ []) → OnOk answer (after.types.held ≡ second.types.held ++ type ∷ [])
        → IfOk answer (λ r. r.constant ≡ None) → IfOk answer (λ r. r.id.0 ≡ length second.nodes.items)
        → Folds s scope (trees.Case at a cs) before after answer
    case_folds at a cs value made_branches branches type first second f answer is_type valued are h k =
        let n = length before.nodes.items in
        let few : Cases = shrunk_cases s.table.now s.class scope cs in
        let more = more_nodes before.nodes.items first.nodes.items (small a) h.placed in
        let two = k.placed ∙ (λ i. h.placed i ++ nodes_of_cases (more i) few)
        ∙ append_assoc before.nodes.items (nodes n (small a)) (nodes_of_cases (n + tree_size (small a)) few) in
        let all = are ∙ k.branches ∙ ap (λ (m : ℕ). branch_roots m few) more in
        let i1 : value ≡ root n (small a) = valued ∙ h.id in
        let made = node.Case at (root n (small a)) (branch_roots (n + tree_size (small a)) few) in
        stays_folds s scope (trees.Case at a cs) before after sound types type is_type (trees.Case at (small a) few) None refl refl second
        (node.Case at value made_branches) answer
        ((λ i. two i ++ node.Case at (i1 i) (all i) ∷ []) ∙ append_assoc before.nodes.items
        (nodes n (small a) ++ nodes_of_cases (n + tree_size (small a)) few) (made ∷ []))
        (λ even. types_later before.types.held first.types.held second.types.held (small_types s scope a) (types_of_cases s.table.now s.class scope few)
        (h.typed even) (k.typed (still_typed s scope {E = E} before first a f h even)))

    -- the nodes of a receiver and of arguments, and their types
    call_placed : (a : Tree) (es : Trees) (first second : Placed) (f : Found) (args : Vec NodeId) → Folds {E = E} s scope a before first (Ok f)
        → FoldsAll {E = E} s scope es first second (Ok args)
        → second.nodes.items ≡ before.nodes.items ++ (nodes (length before.nodes.items) (small a)
        ++ nodes_of_all (length before.nodes.items + tree_size (small a)) (small_all es))
    call_placed a es first second f args h k =
        let n = length before.nodes.items in
        let more = more_nodes before.nodes.items first.nodes.items (small a) h.placed in
        k.placed ∙ (λ i. h.placed i ++ nodes_of_all (more i) (small_all es))
        ∙ append_assoc before.nodes.items (nodes n (small a)) (nodes_of_all (n + tree_size (small a)) (small_all es))

    call_typed : (a : Tree) (es : Trees) (first second : Placed) (f : Found) (args : Vec NodeId) → Folds {E = E} s scope a before first (Ok f)
        → FoldsAll {E = E} s scope es first second (Ok args) → HasTypes before
        → second.types.held ≡ before.types.held ++ (small_types s scope a ++ types_of_all s.table.now s.class scope (small_all es))
    call_typed a es first second f args h k even =
        types_later before.types.held first.types.held second.types.held (small_types s scope a) (types_of_all s.table.now s.class scope (small_all es))
        (h.typed even) (k.typed (still_typed s scope {E = E} before first a f h even))

    pub dispatch_folds : (at : Place) (a : Tree) (name copy : List ℕ) (es : Trees) (object : NodeId) (ids : List NodeId) (args : Vec NodeId)
        (k : ClassId) (type : Ty) (first second : Placed) (f : Found) (answer : Result Found E)
        → type ≡ type_of s.table.now s.class scope (trees.Dispatch at a name es) → k ≡ class_of s.class (type_of s.table.now s.class scope a)
        → object ≡ f.id → copy ≡ name → ids ≡ args.items
        → Folds {E = E} s scope a before first (Ok f) → FoldsAll {E = E} s scope es first second (Ok args)
        → is_redefined s.table.now k name ≡ true
        → OnOk answer (after.nodes.items ≡ second.nodes.items ++ node.Dispatch at object copy ids ∷ []) → OnOk answer (after.types.held ≡ second.types.held ++ type ∷ [])
        → IfOk answer (λ r. r.constant ≡ None) → IfOk answer (λ r. r.id.0 ≡ length second.nodes.items)
        → Folds s scope (trees.Dispatch at a name es) before after answer
    dispatch_folds at a name copy es object ids args k type first second f answer is_type class_is object_is copied are h m redefined =
        let n = length before.nodes.items in
        let more = more_nodes before.nodes.items first.nodes.items (small a) h.placed in
        let two = call_placed a es first second f args h m in
        let all = are ∙ m.ids ∙ ap (λ (j : ℕ). roots j (small_all es)) more in
        let i1 : object ≡ root n (small a) = object_is ∙ h.id in
        let seen : is_redefined s.table.now (class_of s.class (type_of s.table.now s.class scope a)) name ≡ true = sym
        (ap (λ (d : ClassId). is_redefined s.table.now d name) class_is) ∙ redefined in
        let kept = trees.Dispatch at (small a) name (small_all es) in
        let direct = trees.StaticDispatch at (small a) (record
        { name = name_of s.table.now (class_of s.class (type_of s.table.now s.class scope a)); at = at }) name (small_all es) in
        let is : small (trees.Dispatch at a name es) ≡ kept = ap (λ (x : Truth). if x then kept else direct) seen in
        let made = node.Dispatch at (root n (small a)) name (roots (n + tree_size (small a)) (small_all es)) in
        stays_folds s scope (trees.Dispatch at a name es) before after sound types type is_type kept None is refl second
        (node.Dispatch at object copy ids) answer
        ((λ i. two i ++ node.Dispatch at (i1 i) (copied i) (all i) ∷ [])
        ∙ append_assoc before.nodes.items (nodes n (small a) ++ nodes_of_all (n + tree_size (small a)) (small_all es)) (made ∷ []))
        (call_typed a es first second f args h m)

    pub direct_folds : (at : Place) (a : Tree) (name copy named : List ℕ) (es : Trees) (object : NodeId) (ids : List NodeId) (args : Vec NodeId)
        (k : ClassId) (type : Ty) (first second : Placed) (f : Found) (answer : Result Found E)
        → type ≡ type_of s.table.now s.class scope (trees.Dispatch at a name es) → k ≡ class_of s.class (type_of s.table.now s.class scope a)
        → object ≡ f.id → copy ≡ name → ids ≡ args.items
        → Folds {E = E} s scope a before first (Ok f) → FoldsAll {E = E} s scope es first second (Ok args)
        → is_redefined s.table.now k name ≡ false → named ≡ name_of s.table.now k
        → OnOk answer (after.nodes.items ≡ second.nodes.items ++ node.StaticDispatch at object (record { name = named; at = at }) copy ids ∷ []) → OnOk answer (after.types.held ≡ second.types.held ++ type ∷ [])
        → IfOk answer (λ r. r.constant ≡ None) → IfOk answer (λ r. r.id.0 ≡ length second.nodes.items)
        → Folds s scope (trees.Dispatch at a name es) before after answer
    direct_folds at a name copy named es object ids args k type first second f answer is_type class_is object_is copied are h m redefined naming =
        let n = length before.nodes.items in
        let more = more_nodes before.nodes.items first.nodes.items (small a) h.placed in
        let two = call_placed a es first second f args h m in
        let all = are ∙ m.ids ∙ ap (λ (j : ℕ). roots j (small_all es)) more in
        let i1 : object ≡ root n (small a) = object_is ∙ h.id in
        let seen : is_redefined s.table.now (class_of s.class (type_of s.table.now s.class scope a)) name ≡ false = sym
        (ap (λ (d : ClassId). is_redefined s.table.now d name) class_is) ∙ redefined in
        let names : named ≡ name_of s.table.now (class_of s.class (type_of s.table.now s.class scope a)) = naming
        ∙ ap (name_of s.table.now) class_is in
        let kept = trees.Dispatch at (small a) name (small_all es) in
        let meant : TypeRef = record { name = name_of s.table.now (class_of s.class (type_of s.table.now s.class scope a)); at = at } in
        let direct = trees.StaticDispatch at (small a) meant name (small_all es) in
        let is : small (trees.Dispatch at a name es) ≡ direct = ap (λ (x : Truth). if x then kept else direct) seen in
        let made = node.StaticDispatch at (root n (small a)) meant name (roots (n + tree_size (small a)) (small_all es)) in
        stays_folds s scope (trees.Dispatch at a name es) before after sound types type is_type direct None is refl second
        (node.StaticDispatch at object (record { name = named; at = at }) copy ids) answer
        ((λ i. two i ++ node.StaticDispatch at (i1 i) (record { name = names i; at = at }) (copied i) (all i) ∷ [])
        ∙ append_assoc before.nodes.items (nodes n (small a) ++ nodes_of_all (n + tree_size (small a)) (small_all es)) (made ∷ []))
        (call_typed a es first second f args h m)

    pub static_folds : (at : Place) (a : Tree) (class class_copy : TypeRef) (name copy : List ℕ) (es : Trees) (object : NodeId) (ids : List NodeId)
        (args : Vec NodeId) (type : Ty) (first second : Placed) (f : Found) (answer : Result Found E)
        → type ≡ type_of s.table.now s.class scope (trees.StaticDispatch at a class name es)
        → object ≡ f.id → class_copy ≡ class → copy ≡ name → ids ≡ args.items
        → Folds {E = E} s scope a before first (Ok f) → FoldsAll {E = E} s scope es first second (Ok args)
        → OnOk answer (after.nodes.items ≡ second.nodes.items ++ node.StaticDispatch at object class_copy copy ids ∷ []) → OnOk answer (after.types.held ≡ second.types.held ++ type ∷ [])
        → IfOk answer (λ r. r.constant ≡ None) → IfOk answer (λ r. r.id.0 ≡ length second.nodes.items)
        → Folds s scope (trees.StaticDispatch at a class name es) before after answer
    static_folds at a class class_copy name copy es object ids args type first second f answer is_type object_is class_copied copied are h m =
        let n = length before.nodes.items in
        let more = more_nodes before.nodes.items first.nodes.items (small a) h.placed in
        let two = call_placed a es first second f args h m in
        let all = are ∙ m.ids ∙ ap (λ (j : ℕ). roots j (small_all es)) more in
        let i1 : object ≡ root n (small a) = object_is ∙ h.id in
        let made = node.StaticDispatch at (root n (small a)) class name (roots (n + tree_size (small a)) (small_all es)) in
        stays_folds s scope (trees.StaticDispatch at a class name es) before after sound types type is_type
        (trees.StaticDispatch at (small a) class name (small_all es)) None refl refl second (node.StaticDispatch at object class_copy copy ids) answer
        ((λ i. two i ++ node.StaticDispatch at (i1 i) (class_copied i) (copied i) (all i) ∷ [])
        ∙ append_assoc before.nodes.items (nodes n (small a) ++ nodes_of_all (n + tree_size (small a)) (small_all es)) (made ∷ []))
        (call_typed a es first second f args h m)

    pub let_folds : (at : Place) (name copy : List ℕ) (declared declared_copy : TypeRef) (o : MaybeTree) (a : Tree) (id : Option NodeId) (bound : NodeId)
        (type : Ty) (first second : Placed) (f : Found) (answer : Result Found E)
        → type ≡ type_of s.table.now s.class scope (trees.Let at name declared o a) → bound ≡ f.id → copy ≡ name → declared_copy ≡ declared
        → FoldsMaybe {E = E} s scope o before first (Ok id)
        → Folds {E = E} s (with_name name (type_meant s.table.now declared.name) scope) a first second (Ok f)
        → OnOk answer (after.nodes.items ≡ second.nodes.items ++ node.Let at copy declared_copy id bound ∷ []) → OnOk answer (after.types.held ≡ second.types.held ++ type ∷ [])
        → IfOk answer (λ r. r.constant ≡ None) → IfOk answer (λ r. r.id.0 ≡ length second.nodes.items)
        → Folds s scope (trees.Let at name declared o a) before after answer
    let_folds at name copy declared declared_copy o a id bound type first second f answer is_type bound_is copied declared_same h k =
        let n = length before.nodes.items in
        let inner = with_name name (type_meant s.table.now declared.name) scope in
        let value : MaybeTree = shrunk_maybe s.table.now s.class scope o in
        let body : Tree = shrunk s.table.now s.class inner a in
        let more : length first.nodes.items ≡ n + maybe_size value =
        ap length h.placed ∙ length-append before.nodes.items (nodes_of_maybe n value)
        ∙ ap (λ (m : ℕ). n + m) (length-nodes_of_maybe value n) in
        let two = k.placed ∙ (λ i. h.placed i ++ nodes (more i) body) ∙ append_assoc before.nodes.items (nodes_of_maybe n value)
        (nodes (n + maybe_size value) body) in
        let j : bound ≡ root (n + maybe_size value) body = bound_is ∙ k.id ∙ ap (λ (m : ℕ). root m body) more in
        let made = node.Let at name declared (root_of_maybe n value) (root (n + maybe_size value) body) in
        stays_folds s scope (trees.Let at name declared o a) before after sound types type is_type (trees.Let at name declared value body) None refl refl
        second (node.Let at copy declared_copy id bound) answer
        ((λ i. two i ++ node.Let at (copied i) (declared_same i) (h.id i) (j i) ∷ [])
        ∙ append_assoc before.nodes.items (nodes_of_maybe n value ++ nodes (n + maybe_size value) body) (made ∷ []))
        (λ even. types_later before.types.held first.types.held second.types.held (types_of_maybe s.table.now s.class scope value) (small_types s inner a)
        (h.typed even) (k.typed (still_typed_maybe s scope {E = E} before first o id h even)))

    pub if_folds : (at : Place) (a b c : Tree) (yes_id no_id : NodeId) (o : Option Truth) (test one other : NodeId) (type : Ty)
        (first second third : Placed) (f g h : Found) (answer : Result Found E)
        → type ≡ type_of s.table.now s.class scope (trees.If at a b c) → test ≡ f.id → one ≡ g.id → other ≡ h.id
        → Folds {E = E} s scope a before first (Ok f) → Folds {E = E} s scope b first second (Ok g) → Folds {E = E} s scope c second third (Ok h)
        → truth_in (constant_in (small a)) ≡ o
        → taken o (type_of s.table.now s.class scope b) (type_of s.table.now s.class scope c)
        (join_in s.table.now s.class (type_of s.table.now s.class scope b) (type_of s.table.now s.class scope c)) yes_id no_id ≡ None
        → OnOk answer (after.nodes.items ≡ third.nodes.items ++ node.If at test one other ∷ []) → OnOk answer (after.types.held ≡ third.types.held ++ type ∷ [])
        → IfOk answer (λ r. r.constant ≡ None) → IfOk answer (λ r. r.id.0 ≡ length third.nodes.items)
        → Folds s scope (trees.If at a b c) before after answer
    if_folds at a b c yes_id no_id o test one other type first second third f g h answer is_type tested first_is second_is x y z decided none =
        let n = length before.nodes.items in
        let more = more_nodes before.nodes.items first.nodes.items (small a) x.placed in
        let more2 : length second.nodes.items ≡ n + tree_size (small a) + tree_size (small b) =
        more_nodes first.nodes.items second.nodes.items (small b) y.placed ∙ ap (λ (m : ℕ). m + tree_size (small b)) more in
        let na = nodes n (small a) in
        let nb = nodes (n + tree_size (small a)) (small b) in
        let nc = nodes (n + tree_size (small a) + tree_size (small b)) (small c) in
        let two = two_placed before.nodes.items first.nodes.items second.nodes.items (small a) (small b) x.placed y.placed in
        let three = z.placed ∙ (λ i. two i ++ nodes (more2 i) (small c)) ∙ append_assoc before.nodes.items (na ++ nb) nc in
        let i1 : test ≡ root n (small a) = tested ∙ x.id in
        let j : one ≡ root (n + tree_size (small a)) (small b) = first_is ∙ y.id ∙ ap (λ (m : ℕ). root m (small b)) more in
        let k : other ≡ root (n + tree_size (small a) + tree_size (small b)) (small c) = second_is ∙ z.id ∙ ap (λ (m : ℕ). root m (small c)) more2 in
        let v = type_of s.table.now s.class scope b in
        let w = type_of s.table.now s.class scope c in
        let whole = join_in s.table.now s.class v w in
        let kept = trees.If at (small a) (small b) (small c) in
        let is : small (trees.If at a b c) ≡ kept =
        ap (λ (q : Option Truth). unwrap_or (taken q v w whole (small b) (small c)) kept) decided
        ∙ ap (λ (t : Option Tree). unwrap_or t kept) (taken_none o v w whole yes_id no_id (small b) (small c) none) in
        let made = node.If at (root n (small a)) (root (n + tree_size (small a)) (small b))
        (root (n + tree_size (small a) + tree_size (small b)) (small c)) in
        stays_folds s scope (trees.If at a b c) before after sound types type is_type kept None is refl third (node.If at test one other) answer
        ((λ i. three i ++ node.If at (i1 i) (j i) (k i) ∷ []) ∙ append_assoc before.nodes.items (na ++ nb ++ nc) (made ∷ []))
        (λ even. types_later before.types.held second.types.held third.types.held (small_types s scope a ++ small_types s scope b) (small_types s scope c)
        (two_typed s scope {E = E} a b before first second f g x y even)
        (z.typed (still_typed s scope {E = E} first second b g y (still_typed s scope {E = E} before first a f x even))))
