-- If the features of a class have no fault (compile-time error), the types that they declare exist, and the class keeps the compiler's limits.
use Rattle.std.proofs.Common.{◌≡◌, ℕ, suc, ◌+◌, ◌<◌, List, [], ◌∷◌, ◌++◌, length, map, get_or, Option, Some, is_some, Bool, true, false, ◌||◌, cond, sym, refl, arith, true≢false}
use Rattle.std.specs.Prelude.{bytes_eq}
use Rattle.std.specs.List.{AllByRecursion}
use Rattle.std.proofs.lemmas.Bool.{not-false}
use Rattle.std.proofs.lemmas.Slice.Eq.{bytes_eq-Decides}
use Rattle.cool_syntax.specs.declared.place.Place.{Place}
use Rattle.cool_syntax.specs.declared.type_ref.TypeRef.{TypeRef}
use Rattle.cool_syntax.specs.declared.file_tree.Feature.{Feature}
use Rattle.cool_syntax.specs.declared.file_tree.Feature.TheVariants.{Method, Attribute}
use Rattle.cool_syntax.specs.declared.file_tree.Formal.{Formal}
use Rattle.cool_classes.specs.declared.class_id.ClassId.{ClassId}
use Rattle.cool_classes.specs.declared.class_id.Ty.TheVariants.{Class as IsClass, SelfType}
use Rattle.cool_classes.specs.Chains.{Class, class_number, features_of, nothing}
use Rattle.cool_classes.specs.Definitions.{HasFewFormals}
use Rattle.cool_classes.specs.FirstNames.{first_index}
use Rattle.cool_classes.specs.Tables.{IsClassName, IsTypeName, IsTyped}
use Rattle.cool_classes.specs.FeatureFaults.{is_class, type_faults, formal_faults, formals_faults, one_feature_faults, features_faults, class_faults, is_over_limit}
use Rattle.cool_classes.specs.Names.{self_type}
use Rattle.lists.proofs.JoinedLists.{none_both}
use Rattle.cool_classes.proofs.NamesOfFeatures.{not_noted}

-- the class at the first index of a name has it
abbrev Finds : List Class → List ℕ → Type 0
Finds p f = (i : ℕ) × (i < length p) × ((get_or p i nothing).name ≡ f)

class_found : (k : ℕ) (p : List Class) (f : List ℕ) → is_some (first_index k (map (λ (c : Class). Some c.name) p) f) ≡ true → Finds p f
class_found k [] f h = absurd (true≢false (sym h))
class_found k (c ∷ p) f h = by (bytes_eq f c.name) refl h (class_found (k + 1) p f)
  where
    by : (b : Bool) → bytes_eq f c.name ≡ b → is_some (cond b (Some k) (first_index (k + 1) (map (λ (x : Class). Some x.name) p) f)) ≡ true
        → (is_some (first_index (k + 1) (map (λ (x : Class). Some x.name) p) f) ≡ true → Finds p f) → Finds (c ∷ p) f
    by true e t more = (0, omega arith, sym ((bytes_eq-Decides f c.name).0 e))
    by false e t more = let w = more t in (suc w.0, (let less = w.1 in omega arith), w.2)

-- a name that is found is the name of a class
class_known : (p : List Class) (name : List ℕ) → is_class p name ≡ true → IsClassName p name
class_known p name h = let w = class_found 0 p name h in (class_number w.0, w.1, w.2)

known_by : (p : List Class) (name : List ℕ) (b : Bool) → bytes_eq name self_type ≡ b → (b || is_class p name) ≡ true → IsTypeName p name
known_by p name true e h = (SelfType, (bytes_eq-Decides name self_type).0 e)
known_by p name false e h = let w = class_known p name h in (IsClass w.0, (w.1, w.2))

-- a type with no fault is a type
type_known : (p : List Class) (r : TypeRef) → type_faults p r ≡ [] → IsTypeName p r.name
type_known p r h = known_by p r.name (bytes_eq r.name self_type) refl (not-false _ (not_noted _ _ r.at h))

formal_by : (p : List Class) (name : List ℕ) (b : Bool) → b ≡ false → (b || is_class p name) ≡ true → IsClassName p name
formal_by p name true e h = absurd (true≢false e)
formal_by p name false e h = class_known p name h

-- the type of a formal with no fault is a class
formal_known : (p : List Class) (before : List (Option (List ℕ))) (f : Formal) → formal_faults p before f ≡ [] → IsClassName p f.declared.name
formal_known p before f h =
    let others = (none_both _ _ (none_both _ _ h).1).1 in
    let last = none_both _ _ others in
    formal_by p f.declared.name (bytes_eq f.declared.name self_type) (not_noted _ _ f.declared.at last.0) (not-false _ (not_noted _ _ f.declared.at last.1))

formals_known : (p : List Class) (before : List (Option (List ℕ))) (fs : List Formal) → formals_faults p before fs ≡ [] → AllByRecursion (λ (f : Formal). IsClassName p f.declared.name) fs
formals_known p before [] h = tt
formals_known p before (f ∷ fs) h =
    let both = none_both (formal_faults p before f) (formals_faults p (before ++ Some f.name ∷ []) fs) h in
    (formal_known p before f both.0, formals_known p (before ++ Some f.name ∷ []) fs both.1)

feature_typed : (p : List Class) (c : ClassId) (above : List ClassId) (k : ℕ) (x : Feature) → HasFewFormals x → one_feature_faults p c above k x ≡ [] → IsTyped p x
feature_typed p c above k (Method m) few h =
    let rest = none_both (formals_faults p [] m.formals) (type_faults p m.result) (none_both _ _ (none_both _ _ h).1).1 in
    (few, formals_known p [] m.formals rest.0, type_known p m.result rest.1)
feature_typed p c above k (Attribute a) few h = type_known p a.declared (none_both _ _ (none_both _ _ h).1).1

features_typed : (p : List Class) (c : ClassId) (above : List ClassId) (k : ℕ) (fs : List Feature) → AllByRecursion HasFewFormals fs → features_faults p c above k fs ≡ [] → AllByRecursion (IsTyped p) fs
features_typed p c above k [] few h = tt
features_typed p c above k (x ∷ fs) few h =
    let both = none_both (one_feature_faults p c above k x) (features_faults p c above (k + 1) fs) h in
    (feature_typed p c above k x few.0 both.0, features_typed p c above (k + 1) fs few.1 both.1)

-- a class with no fault has features whose types are types, and keeps its limits
pub class_faultless : (p : List Class) (c : ClassId) (above : List ClassId) (at : Place) → AllByRecursion HasFewFormals (features_of p c) → class_faults p c above at ≡ []
    → AllByRecursion (IsTyped p) (features_of p c) × (is_over_limit p (c ∷ above) ≡ false)
class_faultless p c above at few h =
    let both = none_both (features_faults p c above 0 (features_of p c)) _ h in
    (features_typed p c above 0 (features_of p c) few both.0, not_noted _ _ at (none_both _ _ both.1).1)
