-- Each type in the list of the types of a typed expression's nodes is the one that the typing rules give the node at this position.
use Rattle.std.proofs.Common.{◌≡◌, ℕ, zero, suc, ◌<◌, List, [], ◌∷◌, ◌++◌, length, get_or, Option, Some, None, refl, sym, subst, arith}
use Rattle.std.specs.Prelude.{slice_get}
use Rattle.cool_syntax.specs.declared.file_tree.Feature.{Feature}
use Rattle.cool_syntax.specs.declared.file_tree.Feature.TheVariants.{Method, Attribute}
use Rattle.cool_syntax.specs.declared.node.NodeId.{NodeId}
use Rattle.cool_syntax.specs.declared.place.Place.{Place}
use Rattle.cool_syntax.specs.Bare.{nowhere}
use Rattle.cool_syntax.specs.Tree.{Unary, Binary, Call, Tree, Trees, MaybeTree, Cases, Last, More, Without, With, NoCase, CaseOf, tree_size}
use Rattle.cool_syntax.specs.Tree as trees
use Rattle.cool_syntax.proofs.TreesOfLists.{parts, parts_of_all, parts_of_maybe, parts_of_cases, length-parts, all_trees-parts}
use Rattle.cool_classes.specs.declared.class_id.ClassId.{ClassId}
use Rattle.cool_classes.specs.declared.class_id.Ty.{Ty}
use Rattle.cool_classes.specs.declared.class_id.Ty.TheVariants.{Class as IsClass}
use Rattle.cool_classes.specs.Chains.{Class}
use Rattle.cool_classes.specs.ClimbedChains.{chain}
use Rattle.cool_classes.specs.Features.{Denotes, attributes_of}
use Rattle.cool_classes.specs.Tables.{IsWholeTable}
use Rattle.cool_classes.proofs.ChainsOfTables.{chain_is}
use Rattle.cool_classes.proofs.Climbs.{chain_unique}
use Rattle.cool_rules.specs.Conformance.{IsType}
use Rattle.cool_rules.specs.NodeTypes.{node_types, part_types, types_of_all, types_of_maybe, types_of_cases, own_scope, initial_types, feature_types}
use Rattle.cool_rules.specs.NodeScopes.{node_scopes, part_scopes, scopes_of_all, scopes_of_maybe, scopes_of_cases, feature_scope, expression_of, IsTypedEntry, AreTypedColumns}
use Rattle.cool_rules.specs.Rules.{type_meant}
use Rattle.cool_rules.specs.Scopes.{AreTypes, Binding}
use Rattle.cool_rules.specs.StaticTypes.{type_of}
use Rattle.cool_rules.specs.TypedTables.{IsTypedTable}
use Rattle.cool_rules.specs.Typing.{HasType, HaveTypes, HaveItems, HasInit, HaveBranches, FitsDeclared, IsTypedInit, IsTypedFeature, bool_type, int_type, object_type, with_name, attributes_in_scope, formals_in_scope}
use Rattle.cool_rules.proofs.RulesOfTables.{type_meant_is}
use Rattle.cool_rules.proofs.StaticTypesAreGiven.{type_is}
use Rattle.cool_rules.proofs.TypesAreTypes.{meant_is_type, formals_are_types, attributes_are_types}
use Rattle.lists.proofs.AllItems.{all_append}

module _ (p : List Class) (whole : IsWholeTable p) (c : ClassId) (within : c.0 < length p) where
  -- expressions have these types, each with names in scope of its own
  abbrev EachHas : List (List Binding) → List Tree → List Ty → Type 0
  EachHas [] [] [] = Unit {0}
  EachHas [] [] (u ∷ us) = ⊥
  EachHas [] (t ∷ ts) us = ⊥
  EachHas (s ∷ ss) [] us = ⊥
  EachHas (s ∷ ss) (t ∷ ts) [] = ⊥
  EachHas (s ∷ ss) (t ∷ ts) (u ∷ us) = HasType p c s t u × EachHas ss ts us

  both : (ss : List (List Binding)) (xs : List Tree) (us : List Ty) (rs : List (List Binding)) (ys : List Tree) (vs : List Ty)
      → EachHas ss xs us → EachHas rs ys vs → EachHas (ss ++ rs) (xs ++ ys) (us ++ vs)
  both [] [] [] rs ys vs h g = g
  both [] [] (u ∷ us) rs ys vs h g = absurd h
  both [] (x ∷ xs) us rs ys vs h g = absurd h
  both (s ∷ ss) [] us rs ys vs h g = absurd h
  both (s ∷ ss) (x ∷ xs) [] rs ys vs h g = absurd h
  both (s ∷ ss) (x ∷ xs) (u ∷ us) rs ys vs h g = (h.0, both ss xs us rs ys vs h.1 g)

  -- the one at a place
  at_place : (ss : List (List Binding)) (ts : List Tree) (us : List Ty) → EachHas ss ts us → (k : ℕ) (d : Tree) → k < length ts
      → (s : List Binding) × (type : Ty) × (slice_get ss k ≡ Some s) × (slice_get us k ≡ Some type) × HasType p c s (get_or ts k d) type
  at_place [] [] us h k d less = absurd (omega arith)
  at_place [] (t ∷ ts) us h k d less = absurd h
  at_place (s ∷ ss) [] us h k d less = absurd h
  at_place (s ∷ ss) (t ∷ ts) [] h k d less = absurd h
  at_place (s ∷ ss) (t ∷ ts) (u ∷ us) h zero d less = (s, u, refl, refl, h.0)
  at_place (s ∷ ss) (t ∷ ts) (u ∷ us) h (suc k) d less = at_place ss ts us h.1 k d (omega arith)

  -- an expression after its parts
  with_own : (t : Tree) (ps : List Tree) (scope : List Binding) (type : Ty) → AreTypes p scope → HasType p c scope t type → EachHas (part_scopes p scope t) ps (part_types p c scope t)
      → EachHas (node_scopes p scope t) (ps ++ t ∷ []) (node_types p c scope t)
  with_own t ps scope type types has h =
      both (part_scopes p scope t) ps (part_types p c scope t) (scope ∷ []) (t ∷ []) (type_of p c scope t ∷ []) h
      (subst (HasType p c scope t) (sym (type_is p whole c within t scope type types has)) has, tt)

  -- a body within a name of a declared type
  within_name : (name declared : List ℕ) (bound type : Ty) (scope : List Binding) (t : Tree) → Denotes p declared bound → HasType p c (with_name name bound scope) t type
      → HasType p c (with_name name (type_meant p declared) scope) t type
  within_name name declared bound type scope t denotes has =
      subst (λ (u : Ty). HasType p c (with_name name u scope) t type) (type_meant_is p declared bound whole.table denotes) has

  -- if a form with one part has a type, so has the part; the same for forms with two parts, and for calls
  part_typed : (at : Place) (form : Unary) (e : Tree) (scope : List Binding) (type : Ty) → HasType p c scope (trees.unary at form e) type → (t : Ty) × HasType p c scope e t
  part_typed at (trees.assign name) e scope type h = (type, h.2)
  part_typed at trees.isvoid e scope type h = (h.0, h.1)
  part_typed at trees.neg e scope type h = (int_type, h.0)
  part_typed at trees.not e scope type h = (bool_type, h.0)

  parts_typed : (at : Place) (form : Binary) (a b : Tree) (scope : List Binding) (type : Ty) → HasType p c scope (trees.binary at form a b) type
      → (t : Ty) × (u : Ty) × HasType p c scope a t × HasType p c scope b u
  parts_typed at (trees.arith op) a b scope type h = (int_type, int_type, h.0, h.1)
  parts_typed at (trees.compare op) a b scope type h = (h.0, h.1, h.2, h.3)
  parts_typed at trees.while a b scope type h = (bool_type, h.0, h.1, h.2)

  call_typed : (at : Place) (form : Call) (e : Tree) (es : Trees) (scope : List Binding) (type : Ty) → HasType p c scope (trees.call at form e es) type
      → (t : Ty) × (given : List Ty) × HasType p c scope e t × HaveTypes p c scope es given
  call_typed at (trees.dynamic name) e es scope type h = (h.0, h.1, h.2, h.3)
  call_typed at (trees.static class name) e es scope type h = (h.0, h.1, h.3, h.4)

  mutual
    each_has : (t : Tree) (scope : List Binding) (type : Ty) → AreTypes p scope → HasType p c scope t type → EachHas (node_scopes p scope t) (parts t) (node_types p c scope t)
    each_has (trees.leaf at form) scope type types h = with_own (trees.leaf at form) [] scope type types h tt
    each_has (trees.unary at form e) scope type types h =
        let part = part_typed at form e scope type h in
        with_own (trees.unary at form e) (parts e) scope type types h (each_has e scope part.0 types part.1)
    each_has (trees.binary at form a b) scope type types h =
        let both_parts = parts_typed at form a b scope type h in
        with_own (trees.binary at form a b) (parts a ++ parts b) scope type types h
        (both (node_scopes p scope a) (parts a) (node_types p c scope a) (node_scopes p scope b) (parts b) (node_types p c scope b) (each_has a scope both_parts.0 types both_parts.2) (each_has b scope both_parts.1 types both_parts.3))
    each_has (trees.call at form e es) scope type types h =
        let call_parts = call_typed at form e es scope type h in
        with_own (trees.call at form e es) (parts e ++ parts_of_all es) scope type types h
        (both (node_scopes p scope e) (parts e) (node_types p c scope e) (scopes_of_all p scope es) (parts_of_all es) (types_of_all p c scope es) (each_has e scope call_parts.0 types call_parts.2) (all_have es scope call_parts.1 types call_parts.3))
    each_has (trees.If at test y n) scope type types h =
        with_own (trees.If at test y n) (parts test ++ parts y ++ parts n) scope type types h
        (both (node_scopes p scope test ++ node_scopes p scope y) (parts test ++ parts y) (node_types p c scope test ++ node_types p c scope y) (node_scopes p scope n) (parts n) (node_types p c scope n)
        (both (node_scopes p scope test) (parts test) (node_types p c scope test) (node_scopes p scope y) (parts y) (node_types p c scope y) (each_has test scope bool_type types h.2) (each_has y scope h.0 types h.3))
        (each_has n scope h.1 types h.4))
    each_has (trees.Block at es) scope type types h = with_own (trees.Block at es) (parts_of_all es) scope type types h (items_have es scope object_type type types h)
    each_has (trees.Let at name declared o e) scope type types h =
        let inner = with_name name (type_meant p declared.name) scope in
        with_own (trees.Let at name declared o e) (parts_of_maybe o ++ parts e) scope type types h
        (both (scopes_of_maybe p scope o) (parts_of_maybe o) (types_of_maybe p c scope o) (node_scopes p inner e) (parts e) (node_types p c inner e) (init_has o scope h.0 types h.3)
        (each_has e inner type (meant_is_type p whole declared.name, types) (within_name name declared.name h.0 type scope e h.2 h.4)))
    each_has (trees.Case at e cs) scope type types h =
        with_own (trees.Case at e cs) (parts e ++ parts_of_cases cs) scope type types h
        (both (node_scopes p scope e) (parts e) (node_types p c scope e) (scopes_of_cases p scope cs) (parts_of_cases cs) (types_of_cases p c scope cs) (each_has e scope h.0 types h.2) (branches_have cs scope h.1 types h.3))

    all_have : (es : Trees) (scope : List Binding) (ts : List Ty) → AreTypes p scope → HaveTypes p c scope es ts → EachHas (scopes_of_all p scope es) (parts_of_all es) (types_of_all p c scope es)
    all_have Last scope ts types h = tt
    all_have (More e es) scope [] types h = absurd h
    all_have (More e es) scope (t ∷ ts) types h =
        both (node_scopes p scope e) (parts e) (node_types p c scope e) (scopes_of_all p scope es) (parts_of_all es) (types_of_all p c scope es) (each_has e scope t types h.0) (all_have es scope ts types h.1)

    items_have : (es : Trees) (scope : List Binding) (before type : Ty) → AreTypes p scope → HaveItems p c scope before es type → EachHas (scopes_of_all p scope es) (parts_of_all es) (types_of_all p c scope es)
    items_have Last scope before type types h = tt
    items_have (More e es) scope before type types h =
        both (node_scopes p scope e) (parts e) (node_types p c scope e) (scopes_of_all p scope es) (parts_of_all es) (types_of_all p c scope es) (each_has e scope h.0 types h.1) (items_have es scope h.0 type types h.2)

    init_has : (o : MaybeTree) (scope : List Binding) (bound : Ty) → AreTypes p scope → HasInit p c scope bound o → EachHas (scopes_of_maybe p scope o) (parts_of_maybe o) (types_of_maybe p c scope o)
    init_has Without scope bound types h = tt
    init_has (With e) scope bound types h = each_has e scope h.0 types h.1

    branches_have : (cs : Cases) (scope : List Binding) (ts : List Ty) → AreTypes p scope → HaveBranches p c scope cs ts → EachHas (scopes_of_cases p scope cs) (parts_of_cases cs) (types_of_cases p c scope cs)
    branches_have NoCase scope ts types h = tt
    branches_have (CaseOf at name declared e cs) scope [] types h = absurd h
    branches_have (CaseOf at name declared e cs) scope (t ∷ ts) types ((d, other, denotes, has), have) =
        let inner = with_name name (type_meant p declared.name) scope in
        both (node_scopes p inner e) (parts e) (node_types p c inner e) (scopes_of_cases p scope cs) (parts_of_cases cs) (types_of_cases p c scope cs)
        (each_has e inner t (meant_is_type p whole declared.name, types) (within_name name declared.name (IsClass d) t scope e denotes has)) (branches_have cs scope ts types have)

  -- the entry of a node of a typed expression
  entry_typed : (e : Tree) (scope : List Binding) (type : Ty) → AreTypes p scope → HasType p c scope e type → (id : NodeId) → id.0 < tree_size e → IsTypedEntry p c scope e (node_types p c scope e) id
  entry_typed e scope type types has id less =
      let found = at_place (node_scopes p scope e) (parts e) (node_types p c scope e) (each_has e scope type types has) id.0 (trees.Int nowhere 0) (omega (arith, length-parts e)) in
      record {
        inner = found.0;
        type = found.1;
        in_scope = found.2;
        entry = found.3;
        typed = subst (λ (ts : List Tree). HasType p c found.0 (get_or ts id.0 (trees.Int nowhere 0)) found.1) (sym (all_trees-parts e)) found.4;
      }

  -- the column of a feature
  declared_typed : (inner : List Binding) (e : Tree) (declared : List ℕ) → AreTypes p inner → FitsDeclared p c inner e declared → (id : NodeId) → id.0 < tree_size e
      → IsTypedEntry p c (inner ++ own_scope p c) e (node_types p c (inner ++ own_scope p c) e) id
  declared_typed inner e declared types f id less =
      let same : f.chain ≡ chain p c = chain_unique p (Some c) f.chain (chain p c) f.is_chain (chain_is p c whole.table within) in
      entry_typed e (inner ++ own_scope p c) f.type
      (all_append (λ (b : Binding). IsType p b.value) inner (own_scope p c) types (attributes_are_types p whole (attributes_of p (chain p c))))
      (subst (λ (ds : List ClassId). HasType p c (inner ++ attributes_in_scope p (attributes_of p ds)) e f.type) same f.has) id less

  feature_typed : (x : Feature) (e : Tree) → IsTypedFeature p c x → expression_of x ≡ Some e → (id : NodeId) → id.0 < tree_size e → IsTypedEntry p c (feature_scope p c x) e (feature_types p c x) id
  feature_typed (Method m) e h is id less =
      let same : m.body ≡ e = cc in
      subst (λ (t : Tree). IsTypedEntry p c (formals_in_scope p m.formals ++ own_scope p c) t (node_types p c (formals_in_scope p m.formals ++ own_scope p c) m.body) id) same
      (declared_typed (formals_in_scope p m.formals) m.body m.result.name (formals_are_types p whole m.formals) h id (subst (λ (t : Tree). id.0 < tree_size t) (sym same) less))
  feature_typed (Attribute a) e h is id less = by a.init h is
    where
      by : (o : Option Tree) → IsTypedInit p c a.declared.name o → o ≡ Some e → IsTypedEntry p c (own_scope p c) e (initial_types p c o) id
      by None h is = absurd (cc)
      by (Some t) h is =
          let same : t ≡ e = cc in
          subst (λ (u : Tree). IsTypedEntry p c (own_scope p c) u (node_types p c (own_scope p c) t) id) same
          (declared_typed [] t a.declared.name tt h id (subst (λ (u : Tree). id.0 < tree_size u) (sym same) less))

-- in a typed table the columns are typed
pub columns_typed : (p : List Class) → IsTypedTable p → AreTypedColumns p
columns_typed p typed = λ c k x e id within at is less. feature_typed p typed.whole c within x e (typed.features c k x within at) is id less
