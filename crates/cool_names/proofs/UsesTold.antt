-- The marks of typed features (records of the occurrences of names) name the types of variables and the methods of calls that the typing rules give. The
-- variables with which `marks_of` reaches a subexpression agree with the names in scope there.
use Rattle.std.proofs.Common.{◌≡◌, ◌⊎◌, inl, inr, ℕ, ◌<◌, List, [], ◌∷◌, ◌++◌, length, map, Option, Some, None, Bool, true, false, ap, sym, ◌∙◌, refl, subst}
use Rattle.std.specs.Prelude.{bytes_eq, codes, if◌then◌else◌, option_map, slice_get}
use Rattle.std.specs.List.{AllByRecursion}
use Rattle.std.specs.Option.{option_or}
use Rattle.cool_classes.specs.declared.method.MethodRef.{MethodRef}
use Rattle.cool_syntax.specs.declared.place.Place.{Place}
use Rattle.cool_syntax.specs.declared.type_ref.TypeRef.{TypeRef}
use Rattle.cool_syntax.specs.declared.file_tree.ClassDef.{ClassDef}
use Rattle.cool_syntax.specs.declared.file_tree.Feature.{Feature}
use Rattle.cool_syntax.specs.declared.file_tree.Feature.TheVariants.{Method, Attribute}
use Rattle.cool_syntax.specs.declared.file_tree.Formal.{Formal}
use Rattle.cool_syntax.specs.Tree.{Tree, Trees, MaybeTree, Cases, Last, More, Without, With, NoCase, CaseOf}
use Rattle.cool_syntax.specs.Tree as trees
use Rattle.cool_classes.specs.declared.class_id.ClassId.{ClassId}
use Rattle.cool_classes.specs.declared.class_id.Ty.{Ty}
use Rattle.cool_classes.specs.declared.class_id.Ty.TheVariants.{Class as IsClass, SelfType}
use Rattle.cool_classes.specs.declared.method.AttributeRef.{AttributeRef}
use Rattle.cool_classes.specs.Chains.{Class, IsChain, features_of}
use Rattle.cool_classes.specs.ClimbedChains.{chain}
use Rattle.cool_classes.specs.Features.{HasAttribute, IsAttribute, attributes_of, name_in, result_in}
use Rattle.cool_classes.specs.LawfulTables.{HasDifferentFormals, IsLawful}
use Rattle.cool_classes.specs.Tables.{IsClassName, IsTyped, IsTypeName, IsWholeTable}
use Rattle.cool_classes.proofs.AttributesOfChains.{attributes_have}
use Rattle.cool_classes.proofs.ChainsOfTables.{chain_is}
use Rattle.cool_classes.proofs.Climbs.{all_within, chain_unique}
use Rattle.cool_rules.specs.Conformance.{class_of}
use Rattle.cool_rules.specs.NodeTypes.{own_scope}
use Rattle.cool_rules.specs.Rules.{type_meant, type_of_name}
use Rattle.cool_rules.specs.Scopes.{Binding, Bound, entered, found}
use Rattle.cool_rules.specs.Typing.{HasType, HaveTypes, HaveItems, HasInit, HaveBranches, IsImplementation, IsTypedFeature, IsTypedInit, attributes_in_scope, formals_in_scope, type_in_scope, with_name}
use Rattle.cool_rules.proofs.EnteredScopes.{entered_alone, entered_beside, formals_differ, own_differ}
use Rattle.cool_rules.proofs.RulesDecided.{denoted}
use Rattle.cool_rules.proofs.RulesOfTables.{meant_is}
use Rattle.cool_names.specs.declared.mark.Mark.{Mark}
use Rattle.cool_names.specs.declared.mark.Meaning.{Meaning}
use Rattle.cool_names.specs.declared.mark.Target.TheVariants.{Given}
use Rattle.cool_names.specs.Laws.{AreAgreed, within}
use Rattle.cool_names.specs.Marks.{call_mark, is_written, marks_of, marks_of_all, marks_of_cases, marks_of_maybe, seen_type, type_declared, type_mark, with_variable}
use Rattle.cool_names.specs.Meanings.{call_meaning, found_method, method_meaning, name_meaning, self_meaning, unknown, variable_meaning}
use Rattle.cool_names.specs.Programs as programs
use Rattle.cool_names.specs.Programs.{attribute_variable, class_context, feature_marks, formal_variable, formals_marks, variable_there}
use Rattle.cool_names.specs.Scopes.{Variable}
use Rattle.cool_names.specs.Uses.{AreTold, AreUsesTold, Use, attribute_place, attribute_places, defined_at, definition_of, formal_place, formal_places, is_use, place_there, uses_among, uses_in, uses_in_all, uses_in_branches, uses_in_init, uses_in_items, uses_in_value, uses_of, with_place}
use Rattle.cool_names.proofs.SeenTypes.{class_within, declared_rightly, method_is, seen_rightly, seen_typed}
use Rattle.lists.specs.Different.{AreDifferent}
use Rattle.lists.proofs.AllItems.{all_get}

-- Marks one after the other

among_both : (xs ys : List Mark) → uses_among (xs ++ ys) ≡ uses_among xs ++ uses_among ys
among_both [] ys = refl
among_both (m ∷ xs) ys = by (is_use m.role) (among_both xs ys)
  where
    by : (b : Bool) → uses_among (xs ++ ys) ≡ uses_among xs ++ uses_among ys
        → (if b then m ∷ uses_among (xs ++ ys) else uses_among (xs ++ ys)) ≡ (if b then m ∷ uses_among xs else uses_among xs) ++ uses_among ys
    by true e = ap (λ (ms : List Mark). m ∷ ms) e
    by false e = e

told_both : (p : List Class) (xs ys : List Mark) (us vs : List Use) → AreTold p xs us → AreTold p ys vs → AreTold p (xs ++ ys) (us ++ vs)
told_both p [] ys [] vs h k = k
told_both p [] ys (u ∷ us) vs h k = absurd h
told_both p (m ∷ xs) ys [] vs h k = absurd h
told_both p (m ∷ xs) ys (u ∷ us) vs h k = (h.0, told_both p xs ys us vs h.1 k)

pub join : (p : List Class) (xs ys : List Mark) (us vs : List Use) → AreTold p (uses_among xs) us → AreTold p (uses_among ys) vs → AreTold p (uses_among (xs ++ ys)) (us ++ vs)
join p xs ys us vs h k = subst (λ (ms : List Mark). AreTold p ms (us ++ vs)) (sym (among_both xs ys)) (told_both p (uses_among xs) (uses_among ys) us vs h k)

where_written : (p : List Class) (b : Bool) (xs : List Mark) (us : List Use) → AreTold p (uses_among xs) us → AreTold p (uses_among (if b then xs else [])) (if b then us else [])
where_written p true xs us h = h
where_written p false xs us h = tt

-- Definitions of variables in scope

abbrev places_of : List (Bound Variable) → List (Bound Place)
places_of [] = []
places_of (v ∷ vs) = record { name = v.name; value = v.value.at } ∷ places_of vs

-- the place of the variable that a name means
found_there : (locals attributes : List (Bound Variable)) (name : List ℕ)
    → found (places_of locals ++ places_of attributes) name ≡ option_map (λ (v : Variable). v.at) (option_or (found locals name) (found attributes name))
found_there [] [] name = refl
found_there [] (v ∷ attributes) name = by (bytes_eq v.name name) (found_there [] attributes name)
  where
    by : (same : Bool) → found (places_of attributes) name ≡ option_map (λ (v : Variable). v.at) (found attributes name)
        → (if same then Some v.value.at else found (places_of attributes) name) ≡ option_map (λ (v : Variable). v.at) (if same then Some v.value else found attributes name)
    by true e = refl
    by false e = e
found_there (v ∷ locals) attributes name = by (bytes_eq v.name name) (found_there locals attributes name)
  where
    by : (same : Bool) → found (places_of locals ++ places_of attributes) name ≡ option_map (λ (v : Variable). v.at) (option_or (found locals name) (found attributes name))
        → (if same then Some v.value.at else found (places_of locals ++ places_of attributes) name)
        ≡ option_map (λ (v : Variable). v.at) (option_or (if same then Some v.value else found locals name) (found attributes name))
    by true e = refl
    by false e = e

-- the target of the meaning of a name is its definition
defined_there : (locals attributes : List (Bound Variable)) (name : List ℕ) → (name_meaning locals attributes name).target ≡ definition_of (places_of locals ++ places_of attributes) name
defined_there locals attributes name = by (bytes_eq name (codes "self"))
  where
    of_meaning : (o : Option Variable) → (variable_meaning o).target ≡ defined_at (option_map (λ (v : Variable). v.at) o)
    of_meaning None = refl
    of_meaning (Some v) = refl

    by : (own : Bool) → (if own then self_meaning else variable_meaning (option_or (found locals name) (found attributes name))).target
        ≡ (if own then Given else defined_at (found (places_of locals ++ places_of attributes) name))
    by true = refl
    by false = of_meaning (option_or (found locals name) (found attributes name)) ∙ ap defined_at (sym (found_there locals attributes name))

places_entered : (vs os : List (Bound Variable)) → places_of (entered vs os) ≡ entered (places_of vs) (places_of os)
places_entered [] os = refl
places_entered (v ∷ vs) os = places_entered vs (v ∷ os)

places_of_formals : (fs : List Formal) → places_of (map formal_variable fs) ≡ map formal_place fs
places_of_formals [] = refl
places_of_formals (f ∷ fs) = ap (λ (bs : List (Bound Place)). formal_place f ∷ bs) (places_of_formals fs)

place_is_there : (o : Option Feature) → record { name = (variable_there o).name; value = (variable_there o).value.at } ≡ place_there o
place_is_there None = refl
place_is_there (Some (Method m)) = refl
place_is_there (Some (Attribute a)) = refl

places_of_attributes : (p : List Class) (rs : List AttributeRef) → places_of (map (attribute_variable p) rs) ≡ map (attribute_place p) rs
places_of_attributes p [] = refl
places_of_attributes p (r ∷ rs) =
    λ i. place_is_there (slice_get (features_of p r.owner) r.index) i ∷ places_of_attributes p rs i

-- the definitions of the formals of a method and of the attributes of its class
formals_placed : (fs : List Formal) → places_of (programs.formals_in_scope fs) ≡ formal_places fs
formals_placed fs = places_entered (map formal_variable fs) [] ∙ ap (λ (bs : List (Bound Place)). entered bs []) (places_of_formals fs)

attributes_placed : (p : List Class) (c : ClassId) → places_of (programs.attributes_in_scope p c) ≡ attribute_places p (chain p c)
attributes_placed p c = places_entered (map (attribute_variable p) (attributes_of p (chain p c))) [] ∙ ap (λ (bs : List (Bound Place)). entered bs []) (places_of_attributes p (attributes_of p (chain p c)))

-- Variables and names in scope

-- one variable more
pub agreed_with : (p : List Class) (locals attributes : List (Bound Variable)) (scope : List Binding) (name : List ℕ) (declared : TypeRef) (at : Place) (bound : Ty) → type_of_name p declared.name ≡ Some bound
    → AreAgreed p locals attributes scope → AreAgreed p (with_variable name declared at locals) attributes (with_name name bound scope)
agreed_with p locals attributes scope name declared at bound is agreed other = by (bytes_eq name other)
  where
    v : Variable
    v = record { declared = declared.name; at = at }

    by : (b : Bool) → type_declared p (option_or (if b then Some v else found locals other) (found attributes other)) ≡ (if b then Some bound else found scope other)
    by true = is
    by false = agreed other

-- variables and bindings one by one: of one name and one type
abbrev AreMatched : List Class → List (Bound Variable) → List Binding → Type 0
AreMatched p [] [] = Unit {0}
AreMatched p [] (b ∷ bs) = ⊥
AreMatched p (v ∷ vs) [] = ⊥
AreMatched p (v ∷ vs) (b ∷ bs) = ((v.name ≡ b.name) × (type_of_name p v.value.declared ≡ Some b.value)) × AreMatched p vs bs

matched_entered : (p : List Class) (vs os : List (Bound Variable)) (bs scope : List Binding) → AreMatched p vs bs → AreMatched p os scope → AreMatched p (entered vs os) (entered bs scope)
matched_entered p [] os [] scope h k = k
matched_entered p [] os (b ∷ bs) scope h k = absurd h
matched_entered p (v ∷ vs) os [] scope h k = absurd h
matched_entered p (v ∷ vs) os (b ∷ bs) scope h k = matched_entered p vs (v ∷ os) bs (b ∷ scope) h.1 (h.0, k)

-- the names of a feature before those of its class
matched_agreed : (p : List Class) (locals attributes : List (Bound Variable)) (inner outer : List Binding) → AreMatched p locals inner → AreMatched p attributes outer → AreAgreed p locals attributes (inner ++ outer)
matched_agreed p [] [] [] [] h k name = refl
matched_agreed p [] [] [] (b ∷ outer) h k name = absurd k
matched_agreed p [] (v ∷ attributes) [] [] h k name = absurd k
matched_agreed p [] (v ∷ attributes) [] (b ∷ outer) h k name =
    by (bytes_eq v.name name) (bytes_eq b.name name) (ap (λ (n : List ℕ). bytes_eq n name) k.0.0) (matched_agreed p [] attributes [] outer tt k.1 name)
  where
    by : (x y : Bool) → x ≡ y → type_declared p (found attributes name) ≡ found outer name → type_declared p (if x then Some v.value else found attributes name) ≡ (if y then Some b.value else found outer name)
    by true true e more = k.0.1
    by true false e more = absurd (cc)
    by false true e more = absurd (cc)
    by false false e more = more
matched_agreed p [] attributes (b ∷ inner) outer h k name = absurd h
matched_agreed p (v ∷ locals) attributes [] outer h k name = absurd h
matched_agreed p (v ∷ locals) attributes (b ∷ inner) outer h k name =
    by (bytes_eq v.name name) (bytes_eq b.name name) (ap (λ (n : List ℕ). bytes_eq n name) h.0.0) (matched_agreed p locals attributes inner outer h.1 k name)
  where
    by : (x y : Bool) → x ≡ y → type_declared p (option_or (found locals name) (found attributes name)) ≡ found (inner ++ outer) name
        → type_declared p (option_or (if x then Some v.value else found locals name) (found attributes name)) ≡ (if y then Some b.value else found (inner ++ outer) name)
    by true true e more = h.0.1
    by true false e more = absurd (cc)
    by false true e more = absurd (cc)
    by false false e more = more

module _ (p : List Class) (whole : IsWholeTable p) where
  -- a name of a type has the type that it means
  meant_named : (name : List ℕ) → IsTypeName p name → type_of_name p name ≡ Some (type_meant p name)
  meant_named name (t, denotes) = denoted p whole name t denotes ∙ ap Some (sym (meant_is p whole.table name t denotes))

  class_is_type : (name : List ℕ) → IsClassName p name → IsTypeName p name
  class_is_type name (c, less, is) = (IsClass c, (less, is))

  formals_matched : (fs : List Formal) → AllByRecursion (λ (f : Formal). IsClassName p f.declared.name) fs → AreMatched p (map formal_variable fs) (formals_in_scope p fs)
  formals_matched [] h = tt
  formals_matched (f ∷ fs) h = ((refl, meant_named f.declared.name (class_is_type f.declared.name h.0)), formals_matched fs h.1)

  attribute_matched : (o : Option Feature) → IsAttribute o → ((x : Feature) → o ≡ Some x → IsTyped p x)
      → ((variable_there o).name ≡ name_in o) × (type_of_name p (variable_there o).value.declared ≡ Some (type_meant p (result_in o)))
  attribute_matched None h types = absurd h
  attribute_matched (Some (Method m)) h types = absurd h
  attribute_matched (Some (Attribute a)) h types = (refl, meant_named a.declared.name (types (Attribute a) refl))

  attributes_matched : (rs : List AttributeRef) → AllByRecursion (HasAttribute p) rs → AreMatched p (map (attribute_variable p) rs) (attributes_in_scope p rs)
  attributes_matched [] h = tt
  attributes_matched (r ∷ rs) h =
      (attribute_matched (slice_get (features_of p r.owner) r.index) h.0.1 (λ x is. all_get (IsTyped p) (features_of p r.owner) r.index x (whole.table.types r.owner h.0.0) is), attributes_matched rs h.1)

  module _ (lawful : IsLawful p) (c : ClassId) (less : c.0 < length p) where
    own_matched : AreMatched p (map (attribute_variable p) (attributes_of p (chain p c))) (own_scope p c)
    own_matched =
        attributes_matched (attributes_of p (chain p c))
        (attributes_have p (chain p c) (λ j d below. all_within p whole.depth whole.grounded c less (chain p c) (chain_is p c whole.table less) j d below))

    -- the formals of a method and the attributes of its class
    method_agreed : (fs : List Formal) → AllByRecursion (λ (f : Formal). IsClassName p f.declared.name) fs → AreDifferent (map (λ (f : Formal). f.name) fs)
        → AreAgreed p (programs.formals_in_scope fs) (programs.attributes_in_scope p c) (formals_in_scope p fs ++ own_scope p c)
    method_agreed fs classes different name =
        matched_agreed p (programs.formals_in_scope fs) (programs.attributes_in_scope p c) (entered (formals_in_scope p fs) []) (entered (own_scope p c) [])
        (matched_entered p (map formal_variable fs) [] (formals_in_scope p fs) [] (formals_matched fs classes) tt)
        (matched_entered p (map (attribute_variable p) (attributes_of p (chain p c))) [] (own_scope p c) [] own_matched tt) name
        ∙ entered_beside (formals_in_scope p fs) (own_scope p c) (formals_differ p fs different) (own_differ p whole.table lawful c less) name

    -- only the attributes of a class
    own_agreed : AreAgreed p [] (programs.attributes_in_scope p c) (own_scope p c)
    own_agreed name =
        matched_agreed p [] (programs.attributes_in_scope p c) [] (entered (own_scope p c) []) tt
        (matched_entered p (map (attribute_variable p) (attributes_of p (chain p c))) [] (own_scope p c) [] own_matched tt) name
        ∙ entered_alone (own_scope p c) (own_differ p whole.table lawful c less) name

  -- Calls

  -- a method that is found in the class of a type that is seen
  found_is : (k : ClassId) (name : List ℕ) (m : MethodRef) → k.0 < length p → IsImplementation p k name m → call_meaning p (Some k) name ≡ method_meaning p m
  found_is k name m there found = ap (found_method p) (method_is p whole k name m there found)

  -- Expressions

  module _ (ds : List ClassDef) (c : ClassId) (less : c.0 < length p) (attributes : List (Bound Variable)) where
    call_told : (locals : List (Bound Variable)) (scope : List Binding) (e : Tree) (r : Ty) (name : List ℕ) (m : MethodRef) → AreAgreed p locals attributes scope → HasType p c scope e r → IsImplementation p (class_of c r) name m
        → (call_meaning p (option_map (class_of c) (seen_type (within p ds c attributes) locals e)) name ≡ unknown)
        ⊎ (call_meaning p (option_map (class_of c) (seen_type (within p ds c attributes) locals e)) name ≡ method_meaning p m)
    call_told locals scope e r name m agreed has found = by (seen_rightly p whole ds c locals attributes scope e r less agreed has)
      where
        seen : Option Ty
        seen = seen_type (within p ds c attributes) locals e

        told_of : Option Ty → Meaning
        told_of o = call_meaning p (option_map (class_of c) o) name

        by : (seen ≡ None) ⊎ (seen ≡ Some r) → (told_of seen ≡ unknown) ⊎ (told_of seen ≡ method_meaning p m)
        by (inl none) = inl (ap (λ (o : Option Ty). call_meaning p (option_map (class_of c) o) name) none)
        by (inr some) =
            let there = class_within p c r less (seen_typed p whole ds c less attributes locals e r some) in
            inr (ap (λ (o : Option Ty). call_meaning p (option_map (class_of c) o) name) some ∙ found_is (class_of c r) name m there found)

    mutual
      told : (locals : List (Bound Variable)) (scope : List Binding) (e : Tree) (t : Ty) → AreAgreed p locals attributes scope → (typed : HasType p c scope e t)
          → AreTold p (uses_among (marks_of (within p ds c attributes) locals e)) (uses_in p c scope (places_of locals ++ places_of attributes) e t typed)
      told locals scope (trees.Id at name) t agreed typed = ((refl, refl, refl, declared_rightly p c locals attributes scope at name t agreed typed, defined_there locals attributes name), tt)
      told locals scope (trees.Assign at name e) t agreed (declared, other, has, there, conforms) =
          let typed : type_in_scope scope name ≡ Some declared = ap (λ (b : Bool). if b then Some SelfType else found scope name) other ∙ there in
          ((refl, refl, refl, declared_rightly p c locals attributes scope at name declared agreed typed, defined_there locals attributes name), told locals scope e t agreed has)
      told locals scope (trees.Dispatch at e name es) t agreed (r, given, has, have, call) =
          join p (if is_written at e then marks_of (within p ds c attributes) locals e else [])
          (call_mark (within p ds c attributes) at name (seen_type (within p ds c attributes) locals e) ∷ marks_of_all (within p ds c attributes) locals es)
          (if is_written at e then uses_in p c scope (places_of locals ++ places_of attributes) e r has else []) (Use.of_call at name call.method ∷ uses_in_all p c scope (places_of locals ++ places_of attributes) es given have)
          (where_written p (is_written at e) (marks_of (within p ds c attributes) locals e) (uses_in p c scope (places_of locals ++ places_of attributes) e r has) (told locals scope e r agreed has))
          ((refl, refl, refl, call_told locals scope e r name call.method agreed has call.found), told_all locals scope es given agreed have)
      told locals scope (trees.StaticDispatch at e class name es) t agreed (r, given, k, has, have, denotes, conforms, call) =
          join p (marks_of (within p ds c attributes) locals e)
          (type_mark p ds class ∷ call_mark (within p ds c attributes) at name (type_of_name p class.name) ∷ marks_of_all (within p ds c attributes) locals es)
          (uses_in p c scope (places_of locals ++ places_of attributes) e r has) (Use.of_call at name call.method ∷ uses_in_all p c scope (places_of locals ++ places_of attributes) es given have) (told locals scope e r agreed has) (
            (refl, refl, refl, inr (ap (λ (o : Option Ty). call_meaning p (option_map (class_of c) o) name) (denoted p whole class.name (IsClass k) denotes) ∙ found_is k name call.method denotes.0 call.found)),
            told_all locals scope es given agreed have,
          )
      told locals scope (trees.If at a b d) t agreed (u, v, has, has1, has2, both) =
          join p (marks_of (within p ds c attributes) locals a) (marks_of (within p ds c attributes) locals b ++ marks_of (within p ds c attributes) locals d) (uses_in p c scope (places_of locals ++ places_of attributes) a _ has) (uses_in p c scope (places_of locals ++ places_of attributes) b u has1 ++ uses_in p c scope (places_of locals ++ places_of attributes) d v has2) (told locals scope a _ agreed has)
          (join p (marks_of (within p ds c attributes) locals b) (marks_of (within p ds c attributes) locals d) (uses_in p c scope (places_of locals ++ places_of attributes) b u has1) (uses_in p c scope (places_of locals ++ places_of attributes) d v has2) (told locals scope b u agreed has1) (told locals scope d v agreed has2))
      told locals scope (trees.While at a b) t agreed (u, has, has1, is) = join p (marks_of (within p ds c attributes) locals a) (marks_of (within p ds c attributes) locals b) (uses_in p c scope (places_of locals ++ places_of attributes) a _ has) (uses_in p c scope (places_of locals ++ places_of attributes) b u has1) (told locals scope a _ agreed has) (told locals scope b u agreed has1)
      told locals scope (trees.Block at es) t agreed have = told_items locals scope _ es t agreed have
      told locals scope (trees.Let at name declared o e) t agreed (bound, other, denotes, fits, has) =
          join p (marks_of_maybe (within p ds c attributes) locals o) (marks_of (within p ds c attributes) (with_variable name declared at locals) e)
          (uses_in_init p c scope (places_of locals ++ places_of attributes) bound o fits) (uses_in p c (with_name name bound scope) (with_place name at (places_of locals ++ places_of attributes)) e t has) (told_maybe locals scope bound o agreed fits)
          (told (with_variable name declared at locals) (with_name name bound scope) e t (agreed_with p locals attributes scope name declared at bound (denoted p whole declared.name bound denotes) agreed) has)
      told locals scope (trees.Case at e cs) t agreed (u, ts, has, have, different, joined) = join p (marks_of (within p ds c attributes) locals e) (marks_of_cases (within p ds c attributes) locals cs) (uses_in p c scope (places_of locals ++ places_of attributes) e u has) (uses_in_branches p c scope (places_of locals ++ places_of attributes) cs ts have) (told locals scope e u agreed has) (told_cases locals scope cs ts agreed have)
      told locals scope (trees.IsVoid at e) t agreed (u, has, is) = told locals scope e u agreed has
      told locals scope (trees.Arith at op a b) t agreed (has, has1, is) = join p (marks_of (within p ds c attributes) locals a) (marks_of (within p ds c attributes) locals b) (uses_in p c scope (places_of locals ++ places_of attributes) a _ has) (uses_in p c scope (places_of locals ++ places_of attributes) b _ has1) (told locals scope a _ agreed has) (told locals scope b _ agreed has1)
      told locals scope (trees.Neg at e) t agreed (has, is) = told locals scope e _ agreed has
      told locals scope (trees.Compare at op a b) t agreed (u, v, has, has1, comparable, is) = join p (marks_of (within p ds c attributes) locals a) (marks_of (within p ds c attributes) locals b) (uses_in p c scope (places_of locals ++ places_of attributes) a u has) (uses_in p c scope (places_of locals ++ places_of attributes) b v has1) (told locals scope a u agreed has) (told locals scope b v agreed has1)
      told locals scope (trees.Not at e) t agreed (has, is) = told locals scope e _ agreed has
      told locals scope _ t agreed typed = tt

      told_all : (locals : List (Bound Variable)) (scope : List Binding) (es : Trees) (ts : List Ty) → AreAgreed p locals attributes scope → (have : HaveTypes p c scope es ts)
          → AreTold p (uses_among (marks_of_all (within p ds c attributes) locals es)) (uses_in_all p c scope (places_of locals ++ places_of attributes) es ts have)
      told_all locals scope Last [] agreed have = tt
      told_all locals scope Last (t ∷ ts) agreed have = absurd have
      told_all locals scope (More e es) [] agreed have = absurd have
      told_all locals scope (More e es) (t ∷ ts) agreed (has, have) = join p (marks_of (within p ds c attributes) locals e) (marks_of_all (within p ds c attributes) locals es) (uses_in p c scope (places_of locals ++ places_of attributes) e t has) (uses_in_all p c scope (places_of locals ++ places_of attributes) es ts have) (told locals scope e t agreed has) (told_all locals scope es ts agreed have)

      told_items : (locals : List (Bound Variable)) (scope : List Binding) (before : Ty) (es : Trees) (t : Ty) → AreAgreed p locals attributes scope → (have : HaveItems p c scope before es t)
          → AreTold p (uses_among (marks_of_all (within p ds c attributes) locals es)) (uses_in_items p c scope (places_of locals ++ places_of attributes) before es t have)
      told_items locals scope before Last t agreed have = tt
      told_items locals scope before (More e es) t agreed (u, has, have) = join p (marks_of (within p ds c attributes) locals e) (marks_of_all (within p ds c attributes) locals es) (uses_in p c scope (places_of locals ++ places_of attributes) e u has) (uses_in_items p c scope (places_of locals ++ places_of attributes) u es t have) (told locals scope e u agreed has) (told_items locals scope u es t agreed have)

      told_maybe : (locals : List (Bound Variable)) (scope : List Binding) (bound : Ty) (o : MaybeTree) → AreAgreed p locals attributes scope → (fits : HasInit p c scope bound o)
          → AreTold p (uses_among (marks_of_maybe (within p ds c attributes) locals o)) (uses_in_init p c scope (places_of locals ++ places_of attributes) bound o fits)
      told_maybe locals scope bound Without agreed fits = tt
      told_maybe locals scope bound (With e) agreed (t, has, conforms) = told locals scope e t agreed has

      told_cases : (locals : List (Bound Variable)) (scope : List Binding) (cs : Cases) (ts : List Ty) → AreAgreed p locals attributes scope → (have : HaveBranches p c scope cs ts)
          → AreTold p (uses_among (marks_of_cases (within p ds c attributes) locals cs)) (uses_in_branches p c scope (places_of locals ++ places_of attributes) cs ts have)
      told_cases locals scope NoCase [] agreed have = tt
      told_cases locals scope NoCase (t ∷ ts) agreed have = absurd have
      told_cases locals scope (CaseOf at name declared e cs) [] agreed have = absurd have
      told_cases locals scope (CaseOf at name declared e cs) (t ∷ ts) agreed ((d, other, denotes, has), have) =
          join p (marks_of (within p ds c attributes) (with_variable name declared at locals) e) (marks_of_cases (within p ds c attributes) locals cs)
          (uses_in p c (with_name name (IsClass d) scope) (with_place name at (places_of locals ++ places_of attributes)) e t has) (uses_in_branches p c scope (places_of locals ++ places_of attributes) cs ts have)
          (told (with_variable name declared at locals) (with_name name (IsClass d) scope) e t (agreed_with p locals attributes scope name declared at (IsClass d) (denoted p whole declared.name (IsClass d) denotes) agreed) has)
          (told_cases locals scope cs ts agreed have)

  -- Features

  -- formals are no uses
  formals_told : (ds : List ClassDef) (fs : List Formal) (ms : List Mark) → uses_among (formals_marks p ds fs ++ ms) ≡ uses_among ms
  formals_told ds [] ms = refl
  formals_told ds (f ∷ fs) ms = formals_told ds fs ms

  module _ (lawful : IsLawful p) (ds : List ClassDef) (c : ClassId) (less : c.0 < length p) where
    -- a chain of the class is the one that is climbed
    same_scope : (inner : List Binding) (es : List ClassId) → IsChain p (Some c) es → inner ++ own_scope p c ≡ inner ++ attributes_in_scope p (attributes_of p es)
    same_scope inner es is = ap (λ (xs : List ClassId). inner ++ attributes_in_scope p (attributes_of p xs)) (chain_unique p (Some c) (chain p c) es (chain_is p c whole.table less) is)

    same_places : (es : List ClassId) → IsChain p (Some c) es → places_of (programs.attributes_in_scope p c) ≡ attribute_places p es
    same_places es is = attributes_placed p c ∙ ap (attribute_places p) (chain_unique p (Some c) (chain p c) es (chain_is p c whole.table less) is)

    -- uses with equal definitions in scope
    placed : (scope : List Binding) (e : Tree) (t : Ty) (has : HasType p c scope e t) (ms : List Mark) (xs ys : List (Bound Place)) → xs ≡ ys
        → AreTold p ms (uses_in p c scope xs e t has) → AreTold p ms (uses_in p c scope ys e t has)
    placed scope e t has ms xs ys same h = subst (λ (bs : List (Bound Place)). AreTold p ms (uses_in p c scope bs e t has)) same h

    pub feature_told : (x : Feature) → IsTyped p x → HasDifferentFormals x → (typed : IsTypedFeature p c x) → AreTold p (uses_among (feature_marks (class_context p ds c) x)) (uses_of p c x typed)
    feature_told (Method m) types different typed =
        subst (λ (ms : List Mark). AreTold p ms (uses_of p c (Method m) typed))
        (sym (formals_told ds m.formals (type_mark p ds m.result ∷ marks_of (within p ds c (programs.attributes_in_scope p c)) (programs.formals_in_scope m.formals) m.body)))
        (placed _ m.body typed.type typed.has _ (places_of (programs.formals_in_scope m.formals) ++ places_of (programs.attributes_in_scope p c)) (formal_places m.formals ++ attribute_places p typed.chain)
        (λ i. formals_placed m.formals i ++ same_places typed.chain typed.is_chain i)
        (told ds c less (programs.attributes_in_scope p c) (programs.formals_in_scope m.formals) (formals_in_scope p m.formals ++ attributes_in_scope p (attributes_of p typed.chain)) m.body typed.type
        (subst (AreAgreed p (programs.formals_in_scope m.formals) (programs.attributes_in_scope p c)) (same_scope (formals_in_scope p m.formals) typed.chain typed.is_chain)
        (method_agreed lawful c less m.formals types.1 different)) typed.has))
    feature_told (Attribute a) types different typed = by a.init typed
      where
        by : (o : Option Tree) → (fits : IsTypedInit p c a.declared.name o) → AreTold p (uses_among (programs.init_marks (class_context p ds c) o)) (uses_in_value p c a.declared.name o fits)
        by None fits = tt
        by (Some e) fits =
            placed (attributes_in_scope p (attributes_of p fits.chain)) e fits.type fits.has _ (places_of (programs.attributes_in_scope p c)) (attribute_places p fits.chain) (same_places fits.chain fits.is_chain)
            (told ds c less (programs.attributes_in_scope p c) [] (attributes_in_scope p (attributes_of p fits.chain)) e fits.type
            (subst (AreAgreed p [] (programs.attributes_in_scope p c)) (same_scope [] fits.chain fits.is_chain) (own_agreed lawful c less)) fits.has)

pub uses_are_told : (p : List Class) → IsWholeTable p → IsLawful p → AreUsesTold p
uses_are_told p whole lawful ds c k x less there typed =
    feature_told p whole lawful ds c less x (all_get (IsTyped p) (features_of p c) k x (whole.table.types c less) there) (all_get HasDifferentFormals (features_of p c) k x (lawful.formals c less) there) typed
