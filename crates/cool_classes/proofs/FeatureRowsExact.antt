-- The faults (compile-time errors) that `class_faults` lists for the features of a class are exactly the violations of the rules of features that
-- `FeatureRows.antt` defines.
use Rattle.std.proofs.Common.{◌≡◌, ◌≢◌, ◌⊎◌, inl, inr, ℕ, zero, suc, ◌+◌, ◌<◌, ◌≤◌, List, [], ◌∷◌, ◌++◌, length, map, take, Option, Some, None, is_some, Contains, Bool, true, false, not, ◌&&◌, ◌||◌, sym, ap, ◌∙◌, refl, subst, arith, append_assoc, true≢false, append-nil}
use Rattle.std.specs.Prelude.{slice_get, bytes_eq, nat_lt, codes}
use Rattle.std.specs.List.{AllByRecursion}
use Rattle.std.proofs.lemmas.Bool.{eqb-false, ne_eqb, ltb-true, ltb-false, not-true, not_from_false, or_cases, or_left, or_right, and_parts, and_from, or_parts, and_cases, false_from_ne_true}
use Rattle.std.proofs.lemmas.List.{map-append}
use Rattle.std.proofs.lemmas.Option.{none-some, same_Some, slice_get_within}
use Rattle.std.proofs.lemmas.Slice.Eq.{bytes_eq-Decides}
use Rattle.cool_syntax.specs.declared.place.Place.{Place}
use Rattle.cool_syntax.specs.declared.file_tree.AttributeDef.{AttributeDef}
use Rattle.cool_syntax.specs.declared.file_tree.Feature.{Feature}
use Rattle.cool_syntax.specs.declared.file_tree.Feature.TheVariants.{Method, Attribute}
use Rattle.cool_syntax.specs.declared.file_tree.Formal.{Formal}
use Rattle.cool_syntax.specs.declared.file_tree.MethodDef.{MethodDef}
use Rattle.cool_classes.specs.declared.TheConstants.{MOST_ATTRIBUTES, MOST_METHODS}
use Rattle.cool_classes.specs.declared.class_id.ClassId.{ClassId}
use Rattle.cool_classes.specs.declared.fault.ClassFault.{ClassFault}
use Rattle.cool_classes.specs.declared.fault.ClassKind.{ClassKind}
use Rattle.cool_classes.specs.declared.fault.ClassKind.TheVariants.{F1, F2, F3, F4, F5, F6, F7, F8, F9}
use Rattle.cool_classes.specs.declared.method.MethodRef.{MethodRef}
use Rattle.cool_classes.specs.Chains.{Class, class_number, name_of, features_of}
use Rattle.cool_classes.specs.Features.{first_method, implementation, attributes_of, formals_in, formals_of, result_of}
use Rattle.cool_classes.specs.FirstNames.{first_index, is_index, method_name, attribute_name}
use Rattle.cool_classes.specs.FeatureFaults.{noted, is_class, type_faults, formal_faults, formals_faults, formal_row, same_types, declared_types, declares_otherwise, redefines_otherwise, have_attribute, method_faults, attribute_faults, is_doubled, one_feature_faults, features_faults, has_formals, lacks_main_at, lacks_main, is_over_limit, class_faults}
use Rattle.cool_classes.specs.FeatureRows.{IsMethodAt, IsAttributeAt, IsFormalAt, IsNoType, HasOtherSignature, IsFeatureFault, AreRows}
use Rattle.cool_classes.specs.FeatureRows as rows
use Rattle.cool_classes.specs.MethodNames.{methods_of}
use Rattle.cool_classes.specs.Names.{self_type}
use Rattle.cool_classes.proofs.FirstIndexes.{seam_get, take_get, index_found, index_sound, method_row, row_method, attribute_row, row_attribute, formal_row_get, row_formal, class_row, row_class}
use Rattle.cool_classes.proofs.OwnNamesGrow.{first_method_index}
use Rattle.lists.proofs.AllItems.{all_append}
use Rattle.lists.proofs.ItemsAt.{after_get}
use Rattle.std.proofs.lemmas.List.Elements.{Contains-append_left, Contains-append_right}
use Rattle.lists.proofs.Options.{some_value}

abbrev pub fault : ClassKind → Place → ClassFault
fault kind at = record { kind = kind; at = at }

-- the noted fault
noted_only : (P : ClassFault → Type 0) (b : Bool) (kind : ClassKind) (at : Place) → (b ≡ true → P (fault kind at)) → AllByRecursion P (noted b kind at)
noted_only P true kind at make = (make refl, tt)
noted_only P false kind at make = tt

noted_in : (b : Bool) (kind : ClassKind) (at : Place) → b ≡ true → Contains (noted b kind at) (fault kind at)
noted_in true kind at e = (zero, omega arith, refl)
noted_in false kind at e = absurd (cc)

pub bytes_other : (a b : List ℕ) → bytes_eq a b ≡ false → a ≢ b
bytes_other a b e same = true≢false (sym ((bytes_eq-Decides a b).1 same) ∙ e)

-- a type that is none
known_class : (p : List Class) (name : List ℕ) (c : ClassId) → c.0 < length p → name_of p c ≡ name → is_class p name ≡ true
known_class p name c within is =
    let w = index_found 0 (map (λ (x : Class). Some x.name) p) c.0 name (row_class p c.0 name within is) in ap (λ (o : Option ℕ). is_some o) w.1

class_known : (p : List Class) (name : List ℕ) → is_class p name ≡ true → (c : ClassId) × (c.0 < length p) × (name_of p c ≡ name)
class_known p name e =
    let m = some_value (first_index 0 (map (λ (x : Class). Some x.name) p) name) e in
    let w = index_sound 0 (map (λ (x : Class). Some x.name) p) name m.0 m.1 in
    let r = class_row p w.0 name w.2 in (class_number w.0, r.0, r.1)

no_type : (p : List Class) (name : List ℕ) → not (bytes_eq name self_type || is_class p name) ≡ true → IsNoType p name
no_type p name e =
    let both = or_parts (bytes_eq name self_type) (is_class p name) (not-true (bytes_eq name self_type || is_class p name) e) in
    (bytes_other name self_type both.0, λ c within is. true≢false (sym (known_class p name c within is) ∙ both.1))

type_no : (p : List Class) (name : List ℕ) → IsNoType p name → not (bytes_eq name self_type || is_class p name) ≡ true
type_no p name h =
    not_from_false (bytes_eq name self_type || is_class p name)
    (false_from_ne_true (bytes_eq name self_type || is_class p name) (λ e.
    elim (or_cases (bytes_eq name self_type) (is_class p name) e) [
      | inl self ↦ h.0 ((bytes_eq-Decides name self_type).0 self)
      | inr known ↦ let c = class_known p name known in h.1 c.0 c.1 c.2
    ]))

-- types that are the same
pub same_types_is : (ts us : List (List ℕ)) → same_types ts us ≡ true → ts ≡ us
same_types_is [] [] e = refl
same_types_is [] (u ∷ us) e = absurd (cc)
same_types_is (t ∷ ts) [] e = absurd (cc)
same_types_is (t ∷ ts) (u ∷ us) e =
    let both = and_parts (bytes_eq t u) (same_types ts us) e in
    let one = (bytes_eq-Decides t u).0 both.0 in
    let rest = same_types_is ts us both.1 in λ i. one i ∷ rest i

types_same : (ts : List (List ℕ)) → same_types ts ts ≡ true
types_same [] = refl
types_same (t ∷ ts) = and_from (bytes_eq t t) (same_types ts ts) ((bytes_eq-Decides t t).1 refl) (types_same ts)

other_signature_is : (p : List Class) (m : MethodDef) (q : MethodRef) → declares_otherwise p m q ≡ true → HasOtherSignature p m q
other_signature_is p m q e =
    elim (and_cases (same_types (declared_types m.formals) (formals_of p q)) (bytes_eq m.result.name (result_of p q)) (not-true _ e)) [
      | inl f ↦ inl (λ same. true≢false (sym (types_same (formals_of p q)) ∙ ap (λ (ts : List (List ℕ)). same_types ts (formals_of p q)) (sym same) ∙ f))
      | inr f ↦ inr (bytes_other m.result.name (result_of p q) f)
    ]

is_other_signature : (p : List Class) (m : MethodDef) (q : MethodRef) → HasOtherSignature p m q → declares_otherwise p m q ≡ true
is_other_signature p m q h =
    let a = same_types (declared_types m.formals) (formals_of p q) in
    let b = bytes_eq m.result.name (result_of p q) in
    not_from_false (a && b) (false_from_ne_true (a && b) (λ e.
    let both = and_parts a b e in
    elim h [ inl other ↦ other (same_types_is (declared_types m.formals) (formals_of p q) both.0) | inr other ↦ other ((bytes_eq-Decides m.result.name (result_of p q)).0 both.1) ]))

-- an attribute of the name in one of some classes
attribute_above : (p : List Class) (ds : List ClassId) (f : List ℕ) → have_attribute p ds f ≡ true → (d : ClassId) × Contains ds d × ((j : ℕ) × (b : AttributeDef) × IsAttributeAt p d j b × (b.name ≡ f))
attribute_above p [] f e = absurd (cc)
attribute_above p (d ∷ ds) f e =
    elim (or_cases (is_some (first_index 0 (map attribute_name (features_of p d)) f)) (have_attribute p ds f) e) [
      | inl here ↦
          let m = some_value (first_index 0 (map attribute_name (features_of p d)) f) here in
          let w = index_sound 0 (map attribute_name (features_of p d)) f m.0 m.1 in
          let a = attribute_row (features_of p d) w.0 f w.2 in
          (d, Contains-append_left (d ∷ []) ds d (zero, omega arith, refl), (w.0, a.0, a.1, a.2))
      | inr later ↦ let w = attribute_above p ds f later in (w.0, Contains-append_right (d ∷ []) ds w.0 w.1, w.2)
    ]

above_attribute : (p : List Class) (ds : List ClassId) (d : ClassId) (j : ℕ) (b : AttributeDef) → Contains ds d → IsAttributeAt p d j b → have_attribute p ds b.name ≡ true
above_attribute p [] d j b (i, less, e) at = absurd (omega arith)
above_attribute p (x ∷ ds) d j b (zero, less, e) at =
    let there = subst (λ (y : ClassId). IsAttributeAt p y j b) (sym e) at in
    let w = index_found 0 (map attribute_name (features_of p x)) j b.name (row_attribute (features_of p x) j b there) in
    or_left (is_some (first_index 0 (map attribute_name (features_of p x)) b.name)) (have_attribute p ds b.name) (ap (λ (o : Option ℕ). is_some o) w.1)
above_attribute p (x ∷ ds) d j b (suc i, less, e) at =
    or_right (is_some (first_index 0 (map attribute_name (features_of p x)) b.name)) (have_attribute p ds b.name) (above_attribute p ds d j b (i, omega arith, e) at)

-- the name at a place stands earlier too
earlier_place : (row : List (Option (List ℕ))) (k : ℕ) (f : List ℕ) → slice_get row k ≡ Some (Some f) → not (is_index k (first_index 0 row f)) ≡ true → (j : ℕ) × (j < k) × (slice_get row j ≡ Some (Some f))
earlier_place row k f there e =
    let w = index_found 0 row k f there in
    let other = eqb-false (0 + w.0) k (sym (ap (is_index k) w.1) ∙ not-true (is_index k (first_index 0 row f)) e) in
    (w.0, (let l = w.2 in less_by w.0 k l (λ same. other (let z : 0 + w.0 ≡ k = omega arith in z))), w.3)
  where
    less_by : (j k : ℕ) → j ≤ k → (j ≡ k → ⊥) → j < k
    less_by j k l other =
        elim (nat_lt j k) as (λ b. nat_lt j k ≡ b → j < k) [ true ↦ (λ e. ltb-true j k e) | false ↦ (λ e. let past = ltb-false j k e in absurd (other (omega arith))) ] refl

place_earlier : (row : List (Option (List ℕ))) (k j : ℕ) (f : List ℕ) → j < k → slice_get row j ≡ Some (Some f) → not (is_index k (first_index 0 row f)) ≡ true
place_earlier row k j f less there =
    let w = index_found 0 row j f there in
    let l = w.2 in
    not_from_false (is_index k (first_index 0 row f)) (ap (is_index k) w.1 ∙ ne_eqb (0 + w.0) k (λ same. omega arith))

-- the faults of one formal, after others of its method

formal_only : (p : List Class) (P : ClassFault → Type 0) (before : List (Option (List ℕ))) (f : Formal) → (f.name ≡ codes "self" → P (fault F3 f.at))
    → (is_some (first_index 0 before f.name) ≡ true → P (fault F4 f.at)) → (f.declared.name ≡ self_type → P (fault F5 f.declared.at)) → (IsNoType p f.declared.name → P (fault F6 f.declared.at))
    → AllByRecursion P (formal_faults p before f)
formal_only p P before f three four five six =
    let a = noted (bytes_eq f.name (codes "self")) F3 f.at in
    let b = noted (is_some (first_index 0 before f.name)) F4 f.at in
    let c = noted (bytes_eq f.declared.name self_type) F5 f.declared.at in
    let d = type_faults p f.declared in
    all_append P a (b ++ (c ++ d)) (noted_only P (bytes_eq f.name (codes "self")) F3 f.at (λ e. three ((bytes_eq-Decides f.name (codes "self")).0 e)))
    (all_append P b (c ++ d) (noted_only P (is_some (first_index 0 before f.name)) F4 f.at four)
    (all_append P c d (noted_only P (bytes_eq f.declared.name self_type) F5 f.declared.at (λ e. five ((bytes_eq-Decides f.declared.name self_type).0 e)))
    (noted_only P (not (bytes_eq f.declared.name self_type || is_class p f.declared.name)) F6 f.declared.at (λ e. six (no_type p f.declared.name e)))))

-- a property of each formal's faults holds of all
formals_only : (p : List Class) (P : ClassFault → Type 0) (m : MethodDef) (done fs : List Formal) → done ++ fs ≡ m.formals
    → ((j : ℕ) (f : Formal) → IsFormalAt m j f → f.name ≡ codes "self" → P (fault F3 f.at))
    → ((j k : ℕ) (f g : Formal) → IsFormalAt m j f → k < j → IsFormalAt m k g → g.name ≡ f.name → P (fault F4 f.at))
    → ((j : ℕ) (f : Formal) → IsFormalAt m j f → f.declared.name ≡ self_type → P (fault F5 f.declared.at))
    → ((j : ℕ) (f : Formal) → IsFormalAt m j f → IsNoType p f.declared.name → P (fault F6 f.declared.at))
    → AllByRecursion P (formals_faults p (formal_row done) fs)
formals_only p P m done [] whole three four five six = tt
formals_only p P m done (f ∷ fs) whole three four five six =
    let here : IsFormalAt m (length done) f = ap (λ (xs : List Formal). slice_get xs (length done)) (sym whole) ∙ seam_get done fs f in
    let more : formal_row (done ++ f ∷ []) ≡ formal_row done ++ Some f.name ∷ [] = map-append (λ (x : Formal). Some x.name) done (f ∷ []) in
    let rest = formals_only p P m (done ++ f ∷ []) fs (append_assoc done (f ∷ []) fs ∙ whole) three four five six in
    all_append P (formal_faults p (formal_row done) f) (formals_faults p (formal_row done ++ Some f.name ∷ []) fs)
    (formal_only p P (formal_row done) f (three (length done) f here)
    (λ e.
    let n = some_value (first_index 0 (formal_row done) f.name) e in
    let w = index_sound 0 (formal_row done) f.name n.0 n.1 in
    let g = formal_row_get done w.0 f.name w.2 in
    let there : IsFormalAt m w.0 g.0 = ap (λ (xs : List Formal). slice_get xs w.0) (sym whole) ∙ after_get done (f ∷ fs) w.0 g.0 g.1 in
    four (length done) w.0 f g.0 here (slice_get_within done w.0 g.0 g.1) there g.2)
    (five (length done) f here) (six (length done) f here))
    (subst (λ (row : List (Option (List ℕ))). AllByRecursion P (formals_faults p row fs)) more rest)

-- the faults of the formal at a position are among those of all
formals_have : (p : List Class) (done fs : List Formal) (i : ℕ) (f : Formal) (x : ClassFault) → slice_get fs i ≡ Some f → Contains (formal_faults p (formal_row (done ++ take i fs)) f) x
    → Contains (formals_faults p (formal_row done) fs) x
formals_have p done [] i f x e there = absurd (none-some f e)
formals_have p done (g ∷ fs) zero f x e there =
    let same : g ≡ f = same_Some g f e in
    let here = subst (λ (h : Formal). Contains (formal_faults p (formal_row done) h) x) (sym same) (subst (λ (xs : List Formal). Contains (formal_faults p (formal_row xs) f) x) (append-nil done) there) in
    Contains-append_left (formal_faults p (formal_row done) g) (formals_faults p (formal_row done ++ Some g.name ∷ []) fs) x here
formals_have p done (g ∷ fs) (suc i) f x e there =
    let more : formal_row (done ++ g ∷ []) ≡ formal_row done ++ Some g.name ∷ [] = map-append (λ (y : Formal). Some y.name) done (g ∷ []) in
    let rest = formals_have p (done ++ g ∷ []) fs i f x e (subst (λ (xs : List Formal). Contains (formal_faults p (formal_row xs) f) x) (sym (append_assoc done (g ∷ []) (take i fs))) there) in
    Contains-append_right (formal_faults p (formal_row done) g) (formals_faults p (formal_row done ++ Some g.name ∷ []) fs) x
    (subst (λ (row : List (Option (List ℕ))). Contains (formals_faults p row fs) x) more rest)

-- each fault of a class is that of a row
method_only : (p : List Class) (c : ClassId) (ds : List ClassId) (here : Place) (k : ℕ) (m : MethodDef) → IsMethodAt p c k m
    → AllByRecursion (λ (f : ClassFault). IsFeatureFault p c ds here f.kind f.at) (method_faults p c ds k m)
method_only p c ds here k m at =
    let P = λ (f : ClassFault). IsFeatureFault p c ds here f.kind f.at in
    let own = features_of p c in
    let twice = not (is_index k (first_method 0 own m.name)) in
    let otherwise = redefines_otherwise p m (implementation p ds m.name) in
    let formals = formals_faults p [] m.formals in
    let result = type_faults p m.result in
    all_append P (noted twice F1 m.at) (noted otherwise F7 m.at ++ (formals ++ result))
    (noted_only P twice F1 m.at (λ e.
    let w = earlier_place (map method_name own) k m.name (row_method own k m at) (ap (λ (o : Option ℕ). not (is_index k o)) (first_method_index 0 own m.name) ∙ e) in
    let n = method_row own w.0 m.name w.2 in
    rows.method_twice k w.0 m n.0 at w.1 n.1 n.2))
    (all_append P (noted otherwise F7 m.at) (formals ++ result)
    (noted_only P otherwise F7 m.at (other (implementation p ds m.name) refl))
    (all_append P formals result
    (formals_only p P m [] m.formals refl (λ j f is e. rows.formal_self k j m f at is e) (λ j i f g is less also e. rows.formal_twice k j i m f g at is less also e)
    (λ j f is e. rows.formal_self_type k j m f at is e) (λ j f is e. rows.formal_unknown k j m f at is e))
    (noted_only P (not (bytes_eq m.result.name self_type || is_class p m.result.name)) F6 m.result.at (λ e. rows.result_unknown k m at (no_type p m.result.name e)))))
  where
    other : (o : Option MethodRef) → implementation p ds m.name ≡ o → redefines_otherwise p m o ≡ true → IsFeatureFault p c ds here F7 m.at
    other None is e = absurd (cc)
    other (Some q) is e = rows.other_signature k m q at is (other_signature_is p m q e)

attribute_only : (p : List Class) (c : ClassId) (ds : List ClassId) (here : Place) (k : ℕ) (a : AttributeDef) → IsAttributeAt p c k a
    → AllByRecursion (λ (f : ClassFault). IsFeatureFault p c ds here f.kind f.at) (attribute_faults p c ds k a)
attribute_only p c ds here k a at =
    let P = λ (f : ClassFault). IsFeatureFault p c ds here f.kind f.at in
    let own = features_of p c in
    let self = bytes_eq a.name (codes "self") in
    let doubled = is_doubled p c ds k a.name in
    all_append P (noted self F3 a.at) (noted doubled F2 a.at ++ type_faults p a.declared)
    (noted_only P self F3 a.at (λ e. rows.attribute_self k a at ((bytes_eq-Decides a.name (codes "self")).0 e)))
    (all_append P (noted doubled F2 a.at) (type_faults p a.declared)
    (noted_only P doubled F2 a.at (λ e.
    elim (or_cases (not (is_index k (first_index 0 (map attribute_name own) a.name))) (have_attribute p ds a.name) e) [
      | inl twice ↦
          let w = earlier_place (map attribute_name own) k a.name (row_attribute own k a at) twice in
          let b = attribute_row own w.0 a.name w.2 in
          rows.attribute_twice k w.0 a b.0 at w.1 b.1 b.2
      | inr above ↦ let w = attribute_above p ds a.name above in rows.attribute_inherited k w.2.0 a w.2.1 w.0 at w.1 w.2.2 w.2.3
    ]))
    (noted_only P (not (bytes_eq a.declared.name self_type || is_class p a.declared.name)) F6 a.declared.at (λ e. rows.attribute_unknown k a at (no_type p a.declared.name e))))

features_only : (p : List Class) (c : ClassId) (ds : List ClassId) (here : Place) (k : ℕ) (fs : List Feature) → ((i : ℕ) (x : Feature) → slice_get fs i ≡ Some x → slice_get (features_of p c) (k + i) ≡ Some x)
    → AllByRecursion (λ (f : ClassFault). IsFeatureFault p c ds here f.kind f.at) (features_faults p c ds k fs)
features_only p c ds here k [] left = tt
features_only p c ds here k (x ∷ fs) left =
    let P = λ (f : ClassFault). IsFeatureFault p c ds here f.kind f.at in
    let z : k + 0 ≡ k = omega arith in
    let at : slice_get (features_of p c) k ≡ Some x = ap (slice_get (features_of p c)) (sym z) ∙ left zero x refl in
    all_append P (one_feature_faults p c ds k x) (features_faults p c ds (k + 1) fs) (one x at)
    (features_only p c ds here (k + 1) fs (λ i y e. ap (slice_get (features_of p c)) (let n : k + 1 + i ≡ k + suc i = omega arith in n) ∙ left (suc i) y e))
  where
    one : (y : Feature) → slice_get (features_of p c) k ≡ Some y → AllByRecursion (λ (f : ClassFault). IsFeatureFault p c ds here f.kind f.at) (one_feature_faults p c ds k y)
    one (Method m) at = method_only p c ds here k m at
    one (Attribute a) at = attribute_only p c ds here k a at

-- a class Main without its method
formals_there : (fs : List Formal) → has_formals (declared_types fs) ≡ true → fs ≢ []
formals_there [] e same = true≢false (sym e)
formals_there (f ∷ fs) e same = absurd (cc)

there_formals : (fs : List Formal) → fs ≢ [] → has_formals (declared_types fs) ≡ true
there_formals [] some = absurd (some refl)
there_formals (f ∷ fs) some = refl

main_only : (p : List Class) (c : ClassId) (ds : List ClassId) (here : Place) → lacks_main p c ≡ true → IsFeatureFault p c ds here F8 here
main_only p c ds here e = by (first_method 0 own main) refl both.1
  where
    own : List Feature
    own = features_of p c

    main : List ℕ
    main = codes "main"

    both : (bytes_eq (name_of p c) (codes "Main") ≡ true) × (lacks_main_at (features_of p c) (first_method 0 (features_of p c) (codes "main")) ≡ true)
    both = and_parts (bytes_eq (name_of p c) (codes "Main")) (lacks_main_at (features_of p c) (first_method 0 (features_of p c) (codes "main"))) e

    named : name_of p c ≡ codes "Main"
    named = (bytes_eq-Decides (name_of p c) (codes "Main")).0 both.0

    by : (o : Option ℕ) → first_method 0 (features_of p c) (codes "main") ≡ o → lacks_main_at (features_of p c) o ≡ true → IsFeatureFault p c ds here F8 here
    by None is t = rows.no_main named (λ i m at same.
        let w = index_found 0 (map method_name (features_of p c)) i (codes "main") (row_method (features_of p c) i m at ∙ ap (λ (f : List ℕ). Some (Some f)) same) in
        none-some (0 + w.0) (sym is ∙ sym (first_method_index 0 (features_of p c) (codes "main")) ∙ w.1))
    by (Some k) is t =
        let found = first_method_index 0 (features_of p c) (codes "main") ∙ is in
        let w = index_sound 0 (map method_name (features_of p c)) (codes "main") k found in
        let n = method_row (features_of p c) w.0 (codes "main") w.2 in
        let at : slice_get (features_of p c) k ≡ Some (Method n.0) = ap (slice_get (features_of p c)) (let z : k ≡ w.0 = (let e' = w.1 in omega arith) in z) ∙ n.1 in
        rows.main_formals k n.0 named at n.2
        (λ j m less at_j same.
        let v = index_found 0 (map method_name (features_of p c)) j (codes "main") (row_method (features_of p c) j m at_j ∙ ap (λ (f : List ℕ). Some (Some f)) same) in
        let l = v.2 in
        let both_are : 0 + v.0 ≡ k = same_Some (0 + v.0) k (sym v.1 ∙ found) in absurd (omega arith))
        (formals_there n.0.formals (sym (ap (λ (o : Option Feature). has_formals (formals_in o)) at) ∙ t))

class_only : (p : List Class) (c : ClassId) (ds : List ClassId) (here : Place) → AllByRecursion (λ (f : ClassFault). IsFeatureFault p c ds here f.kind f.at) (class_faults p c ds here)
class_only p c ds here =
    let P = λ (f : ClassFault). IsFeatureFault p c ds here f.kind f.at in
    let over = is_over_limit p (c ∷ ds) in
    let many = nat_lt MOST_ATTRIBUTES (length (attributes_of p (c ∷ ds))) in
    let most = nat_lt MOST_METHODS (length (methods_of p (c ∷ ds))) in
    all_append P (features_faults p c ds 0 (features_of p c)) (noted (lacks_main p c) F8 here ++ noted over F9 here)
    (features_only p c ds here 0 (features_of p c) (λ i x e. ap (slice_get (features_of p c)) (let z : 0 + i ≡ i = omega arith in z) ∙ e))
    (all_append P (noted (lacks_main p c) F8 here) (noted over F9 here) (noted_only P (lacks_main p c) F8 here (main_only p c ds here))
    (noted_only P over F9 here (λ e.
    elim (or_cases many most e) [
      | inl a ↦ rows.attributes_over (ltb-true MOST_ATTRIBUTES (length (attributes_of p (c ∷ ds))) a)
      | inr m ↦ rows.methods_over (ltb-true MOST_METHODS (length (methods_of p (c ∷ ds))) m)
    ])))

-- the faults of the feature at a position are among those of the class
features_have : (p : List Class) (c : ClassId) (ds : List ClassId) (k : ℕ) (fs : List Feature) (i : ℕ) (x : Feature) (f : ClassFault) → slice_get fs i ≡ Some x
    → Contains (one_feature_faults p c ds (k + i) x) f → Contains (features_faults p c ds k fs) f
features_have p c ds k [] i x f e there = absurd (none-some x e)
features_have p c ds k (y ∷ fs) zero x f e there =
    let z : k + 0 ≡ k = omega arith in
    let same : y ≡ x = same_Some y x e in
    Contains-append_left (one_feature_faults p c ds k y) (features_faults p c ds (k + 1) fs) f
    (subst (λ (w : Feature). Contains (one_feature_faults p c ds k w) f) (sym same) (subst (λ (n : ℕ). Contains (one_feature_faults p c ds n x) f) z there))
features_have p c ds k (y ∷ fs) (suc i) x f e there =
    Contains-append_right (one_feature_faults p c ds k y) (features_faults p c ds (k + 1) fs) f
    (features_have p c ds (k + 1) fs i x f e (subst (λ (n : ℕ). Contains (one_feature_faults p c ds n x) f) (let n : k + suc i ≡ k + 1 + i = omega arith in n) there))

own_have : (p : List Class) (c : ClassId) (ds : List ClassId) (here : Place) (i : ℕ) (x : Feature) (f : ClassFault) → slice_get (features_of p c) i ≡ Some x → Contains (one_feature_faults p c ds i x) f
    → Contains (class_faults p c ds here) f
own_have p c ds here i x f e there =
    Contains-append_left (features_faults p c ds 0 (features_of p c)) (noted (lacks_main p c) F8 here ++ noted (is_over_limit p (c ∷ ds)) F9 here) f
    (features_have p c ds 0 (features_of p c) i x f e (subst (λ (n : ℕ). Contains (one_feature_faults p c ds n x) f) (let z : i ≡ 0 + i = omega arith in z) there))

method_formal_has : (p : List Class) (c : ClassId) (ds : List ClassId) (here : Place) (i j : ℕ) (m : MethodDef) (g : Formal) (f : ClassFault) → IsMethodAt p c i m → IsFormalAt m j g
    → Contains (formal_faults p (formal_row (take j m.formals)) g) f → Contains (class_faults p c ds here) f
method_formal_has p c ds here i j m g f at is there =
    let twice = noted (not (is_index i (first_method 0 (features_of p c) m.name))) F1 m.at in
    let otherwise = noted (redefines_otherwise p m (implementation p ds m.name)) F7 m.at in
    let formals = formals_faults p [] m.formals in
    own_have p c ds here i (Method m) f at
    (Contains-append_right twice (otherwise ++ (formals ++ type_faults p m.result)) f (Contains-append_right otherwise (formals ++ type_faults p m.result) f (Contains-append_left formals (type_faults p m.result) f
    (formals_have p [] m.formals j g f is there))))

-- each fault of a row is there
row_there : (p : List Class) (c : ClassId) (ds : List ClassId) (here : Place) (kind : ClassKind) (at : Place) → IsFeatureFault p c ds here kind at → Contains (class_faults p c ds here) (fault kind at)
row_there p c ds here kind at (rows.method_twice i j m n is less also same) =
    let own = features_of p c in
    let twice = not (is_index i (first_method 0 own m.name)) in
    let e : twice ≡ true = ap (λ (o : Option ℕ). not (is_index i o)) (sym (first_method_index 0 own m.name))
    ∙ place_earlier (map method_name own) i j m.name less (row_method own j n also ∙ ap (λ (f : List ℕ). Some (Some f)) same) in
    own_have p c ds here i (Method m) (fault F1 m.at) is (Contains-append_left (noted twice F1 m.at) _ (fault F1 m.at) (noted_in twice F1 m.at e))
row_there p c ds here kind at (rows.attribute_twice i j a b is less also same) =
    let own = features_of p c in
    let first = not (is_index i (first_index 0 (map attribute_name own) a.name)) in
    let e = place_earlier (map attribute_name own) i j a.name less (row_attribute own j b also ∙ ap (λ (f : List ℕ). Some (Some f)) same) in
    let doubled = is_doubled p c ds i a.name in
    own_have p c ds here i (Attribute a) (fault F2 a.at) is
    (Contains-append_right (noted (bytes_eq a.name (codes "self")) F3 a.at) _ (fault F2 a.at) (Contains-append_left (noted doubled F2 a.at) _ (fault F2 a.at) (noted_in doubled F2 a.at (or_left first (have_attribute p ds a.name) e))))
row_there p c ds here kind at (rows.attribute_inherited i j a b d is there also same) =
    let own = features_of p c in
    let first = not (is_index i (first_index 0 (map attribute_name own) a.name)) in
    let e = ap (have_attribute p ds) (sym same) ∙ above_attribute p ds d j b there also in
    let doubled = is_doubled p c ds i a.name in
    own_have p c ds here i (Attribute a) (fault F2 a.at) is
    (Contains-append_right (noted (bytes_eq a.name (codes "self")) F3 a.at) _ (fault F2 a.at) (Contains-append_left (noted doubled F2 a.at) _ (fault F2 a.at) (noted_in doubled F2 a.at (or_right first (have_attribute p ds a.name) e))))
row_there p c ds here kind at (rows.attribute_self i a is same) =
    own_have p c ds here i (Attribute a) (fault F3 a.at) is
    (Contains-append_left (noted (bytes_eq a.name (codes "self")) F3 a.at) _ (fault F3 a.at) (noted_in (bytes_eq a.name (codes "self")) F3 a.at ((bytes_eq-Decides a.name (codes "self")).1 same)))
row_there p c ds here kind at (rows.formal_self i j m f is also same) =
    method_formal_has p c ds here i j m f (fault F3 f.at) is also
    (Contains-append_left (noted (bytes_eq f.name (codes "self")) F3 f.at) _ (fault F3 f.at) (noted_in (bytes_eq f.name (codes "self")) F3 f.at ((bytes_eq-Decides f.name (codes "self")).1 same)))
row_there p c ds here kind at (rows.formal_twice i j k m f g is also less earlier same) =
    let row = formal_row (take j m.formals) in
    let w = index_found 0 row k f.name (row_formal (take j m.formals) k g (take_get m.formals j k g less earlier) ∙ ap (λ (x : List ℕ). Some (Some x)) same) in
    let double = is_some (first_index 0 row f.name) in
    method_formal_has p c ds here i j m f (fault F4 f.at) is also
    (Contains-append_right (noted (bytes_eq f.name (codes "self")) F3 f.at) _ (fault F4 f.at) (Contains-append_left (noted double F4 f.at) _ (fault F4 f.at) (noted_in double F4 f.at (ap (λ (o : Option ℕ). is_some o) w.1))))
row_there p c ds here kind at (rows.formal_self_type i j m f is also same) =
    let row = formal_row (take j m.formals) in
    let self = bytes_eq f.declared.name self_type in
    method_formal_has p c ds here i j m f (fault F5 f.declared.at) is also
    (Contains-append_right (noted (bytes_eq f.name (codes "self")) F3 f.at) _ (fault F5 f.declared.at) (Contains-append_right (noted (is_some (first_index 0 row f.name)) F4 f.at) _ (fault F5 f.declared.at)
    (Contains-append_left (noted self F5 f.declared.at) _ (fault F5 f.declared.at) (noted_in self F5 f.declared.at ((bytes_eq-Decides f.declared.name self_type).1 same)))))
row_there p c ds here kind at (rows.formal_unknown i j m f is also none) =
    let row = formal_row (take j m.formals) in
    let unknown = not (bytes_eq f.declared.name self_type || is_class p f.declared.name) in
    method_formal_has p c ds here i j m f (fault F6 f.declared.at) is also
    (Contains-append_right (noted (bytes_eq f.name (codes "self")) F3 f.at) _ (fault F6 f.declared.at) (Contains-append_right (noted (is_some (first_index 0 row f.name)) F4 f.at) _ (fault F6 f.declared.at)
    (Contains-append_right (noted (bytes_eq f.declared.name self_type) F5 f.declared.at) _ (fault F6 f.declared.at) (noted_in unknown F6 f.declared.at (type_no p f.declared.name none)))))
row_there p c ds here kind at (rows.result_unknown i m is none) =
    let twice = noted (not (is_index i (first_method 0 (features_of p c) m.name))) F1 m.at in
    let otherwise = noted (redefines_otherwise p m (implementation p ds m.name)) F7 m.at in
    let unknown = not (bytes_eq m.result.name self_type || is_class p m.result.name) in
    own_have p c ds here i (Method m) (fault F6 m.result.at) is
    (Contains-append_right twice _ (fault F6 m.result.at) (Contains-append_right otherwise _ (fault F6 m.result.at) (Contains-append_right (formals_faults p [] m.formals) _ (fault F6 m.result.at)
    (noted_in unknown F6 m.result.at (type_no p m.result.name none)))))
row_there p c ds here kind at (rows.attribute_unknown i a is none) =
    let unknown = not (bytes_eq a.declared.name self_type || is_class p a.declared.name) in
    own_have p c ds here i (Attribute a) (fault F6 a.declared.at) is
    (Contains-append_right (noted (bytes_eq a.name (codes "self")) F3 a.at) _ (fault F6 a.declared.at) (Contains-append_right (noted (is_doubled p c ds i a.name) F2 a.at) _ (fault F6 a.declared.at)
    (noted_in unknown F6 a.declared.at (type_no p a.declared.name none))))
row_there p c ds here kind at (rows.other_signature i m q is above other) =
    let twice = noted (not (is_index i (first_method 0 (features_of p c) m.name))) F1 m.at in
    let otherwise = redefines_otherwise p m (implementation p ds m.name) in
    let e : otherwise ≡ true = ap (redefines_otherwise p m) above ∙ is_other_signature p m q other in
    own_have p c ds here i (Method m) (fault F7 m.at) is (Contains-append_right twice _ (fault F7 m.at) (Contains-append_left (noted otherwise F7 m.at) _ (fault F7 m.at) (noted_in otherwise F7 m.at e)))
row_there p c ds here kind at (rows.no_main named none) =
    let own = features_of p c in
    let lacks = lacks_main p c in
    let e : lacks ≡ true = and_from (bytes_eq (name_of p c) (codes "Main")) (lacks_main_at own (first_method 0 own (codes "main"))) ((bytes_eq-Decides (name_of p c) (codes "Main")).1 named)
    (nowhere (first_method 0 own (codes "main")) (first_method_index 0 own (codes "main"))) in
    Contains-append_right (features_faults p c ds 0 own) _ (fault F8 here) (Contains-append_left (noted lacks F8 here) _ (fault F8 here) (noted_in lacks F8 here e))
  where
    nowhere : (o : Option ℕ) → first_index 0 (map method_name (features_of p c)) (codes "main") ≡ o → lacks_main_at (features_of p c) o ≡ true
    nowhere None is = refl
    nowhere (Some k) is =
        let w = index_sound 0 (map method_name (features_of p c)) (codes "main") k is in
        let n = method_row (features_of p c) w.0 (codes "main") w.2 in absurd (none w.0 n.0 n.1 n.2)
row_there p c ds here kind at (rows.main_formals i m named is same none some) =
    let own = features_of p c in
    let lacks = lacks_main p c in
    let w = index_found 0 (map method_name own) i (codes "main") (row_method own i m is ∙ ap (λ (f : List ℕ). Some (Some f)) same) in
    let n = method_row own w.0 (codes "main") w.3 in
    let first : first_method 0 own (codes "main") ≡ Some i = sym (first_method_index 0 own (codes "main")) ∙ w.1 ∙ ap Some (at_end w.0 i w.2 (λ less. none w.0 n.0 less n.1 n.2)) in
    let e : lacks ≡ true = and_from (bytes_eq (name_of p c) (codes "Main")) (lacks_main_at own (first_method 0 own (codes "main"))) ((bytes_eq-Decides (name_of p c) (codes "Main")).1 named)
    (ap (lacks_main_at own) first ∙ ap (λ (o : Option Feature). has_formals (formals_in o)) is ∙ there_formals m.formals some) in
    Contains-append_right (features_faults p c ds 0 own) _ (fault F8 here) (Contains-append_left (noted lacks F8 here) _ (fault F8 here) (noted_in lacks F8 here e))
  where
    at_end : (j k : ℕ) → j ≤ k → (j < k → ⊥) → 0 + j ≡ k
    at_end j k l not_less =
        elim (nat_lt j k) as (λ b. nat_lt j k ≡ b → 0 + j ≡ k) [ true ↦ (λ e. absurd (not_less (ltb-true j k e))) | false ↦ (λ e. let past = ltb-false j k e in omega arith) ] refl
row_there p c ds here kind at (rows.attributes_over many) =
    let over = is_over_limit p (c ∷ ds) in
    let e : over ≡ true = or_left (nat_lt MOST_ATTRIBUTES (length (attributes_of p (c ∷ ds)))) (nat_lt MOST_METHODS (length (methods_of p (c ∷ ds)))) (less_true MOST_ATTRIBUTES (length (attributes_of p (c ∷ ds))) many) in
    Contains-append_right (features_faults p c ds 0 (features_of p c)) _ (fault F9 here) (Contains-append_right (noted (lacks_main p c) F8 here) _ (fault F9 here) (noted_in over F9 here e))
  where
    less_true : (a b : ℕ) → a < b → nat_lt a b ≡ true
    less_true a b less = elim (nat_lt a b) as (λ t. nat_lt a b ≡ t → t ≡ true) [ true ↦ (λ e. refl) | false ↦ (λ e. let past = ltb-false a b e in absurd (omega arith)) ] refl
row_there p c ds here kind at (rows.methods_over many) =
    let over = is_over_limit p (c ∷ ds) in
    let e : over ≡ true = or_right (nat_lt MOST_ATTRIBUTES (length (attributes_of p (c ∷ ds)))) (nat_lt MOST_METHODS (length (methods_of p (c ∷ ds)))) (less_true MOST_METHODS (length (methods_of p (c ∷ ds))) many) in
    Contains-append_right (features_faults p c ds 0 (features_of p c)) _ (fault F9 here) (Contains-append_right (noted (lacks_main p c) F8 here) _ (fault F9 here) (noted_in over F9 here e))
  where
    less_true : (a b : ℕ) → a < b → nat_lt a b ≡ true
    less_true a b less = elim (nat_lt a b) as (λ t. nat_lt a b ≡ t → t ≡ true) [ true ↦ (λ e. refl) | false ↦ (λ e. let past = ltb-false a b e in absurd (omega arith)) ] refl

pub class_rows : (p : List Class) (c : ClassId) (ds : List ClassId) (here : Place) → AreRows (IsFeatureFault p c ds here) (class_faults p c ds here)
class_rows p c ds here = record { only = class_only p c ds here; all = row_there p c ds here }
