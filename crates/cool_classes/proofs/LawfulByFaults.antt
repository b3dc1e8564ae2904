-- If class definitions have no faults (compile-time errors), the class table that they make keeps Cool's rules on parents, redefined methods, unique names and
-- the method main.
use Rattle.std.proofs.Common.{◌≡◌, ◌≢◌, ◌⊎◌, inl, inr, ℕ, zero, suc, ◌+◌, ◌<◌, ◌≤◌, List, [], ◌∷◌, ◌++◌, map, length, get_or, Option, Some, None, Bool, true, false, not, ◌&&◌, ◌||◌, cond, ap, sym, ◌∙◌, refl, subst, arith, true≢false}
use Rattle.std.specs.Prelude.{if◌then◌else◌, bytes_eq, codes, option_map, nat_eq, nat_lt, slice_get, is_none}
use Rattle.std.proofs.lemmas.List.{length-map}
use Rattle.std.proofs.lemmas.Slice.Eq.{bytes_eq-Decides}
use Rattle.cool_syntax.specs.declared.place.Place.{Place}
use Rattle.cool_syntax.specs.declared.type_ref.TypeRef.{TypeRef}
use Rattle.cool_syntax.specs.declared.file_tree.ClassDef.{ClassDef}
use Rattle.cool_syntax.specs.declared.file_tree.Feature.{Feature}
use Rattle.cool_syntax.specs.declared.file_tree.Feature.TheVariants.{Method, Attribute}
use Rattle.cool_syntax.specs.declared.file_tree.MethodDef.{MethodDef}
use Rattle.cool_classes.specs.declared.class_id.ClassId.{ClassId}
use Rattle.cool_classes.specs.declared.fault.ClassKind.{ClassKind}
use Rattle.cool_classes.specs.declared.fault.ClassKind.TheVariants.{C2, C4, C6, F7, F8}
use Rattle.cool_classes.specs.declared.method.MethodRef.{MethodRef}
use Rattle.cool_classes.specs.declared.method.MethodRef.TheVariants.{Basic, User}
use Rattle.cool_classes.specs.declared.method.BasicMethod.{BasicMethod}
use Rattle.cool_classes.specs.Chains.{Class, class_number, nothing, name_of, parent_of, features_of, IsChain}
use Rattle.cool_classes.specs.ClassFaults.{of_kind, names_faults, cycle_faults, is_barred, class_kind, parent_kind, parent_faults, parents_faults, main_faults, class_meant, classes_meant, features_from, feature_phase, places, HasClassPhase}
use Rattle.cool_classes.specs.ClimbedChains.{above}
use Rattle.cool_classes.specs.FeatureFaults.{noted, same_types, declared_types, declares_otherwise, redefines_otherwise, one_feature_faults, features_faults, has_formals, lacks_main_at, lacks_main, class_faults}
use Rattle.cool_classes.specs.Features.{own_method, user_method, first_method, first_of, implementation, method_among, basic_methods, object_methods, io_methods, string_methods, formals_of, result_of, formals_in, result_in}
use Rattle.cool_classes.specs.LawfulTables.{HasMain, MayInherit, SameSignature, IsLawful}
use Rattle.cool_classes.specs.Names.{first_named, self_type}
use Rattle.cool_classes.specs.Settled.{basic_names, names_in, names_with_basic, parent_meant, or_object}
use Rattle.cool_classes.specs.Tables.{IsWholeTable}
use Rattle.cool_classes.proofs.ChainsOfTables.{above_of}
use Rattle.cool_classes.proofs.ClassesNamed.{named_back}
use Rattle.cool_classes.proofs.NamesOfFeatures.{not_noted, formals_named, methods_named, attributes_named}
use Rattle.lists.proofs.JoinedLists.{none_both}
use Rattle.cool_classes.proofs.FeatureRowsExact.{same_types_is}
use Rattle.std.proofs.lemmas.Option.{same_Some}
use Rattle.std.proofs.lemmas.Bool.{ltb-false, ltb-true}

pub no_kind : (o : Option ClassKind) (at : Place) → of_kind o at ≡ [] → o ≡ None
no_kind None at h = refl
no_kind (Some k) at h = absurd (cc)

both_true : (a b : Bool) → not (a && b) ≡ false → (a ≡ true) × (b ≡ true)
both_true true true h = (refl, refl)
both_true true false h = absurd (cc)
both_true false b h = absurd (cc)

-- Parents

not_barred : (c : ClassId) → is_barred c ≡ false → MayInherit c
not_barred c e = by (nat_eq c.0 2) (nat_eq c.0 3) (nat_eq c.0 4) refl refl refl e
  where
    other : (n m : ℕ) → nat_eq n m ≡ false → n ≢ m
    other n m e = grind arith

    by : (x y z : Bool) → nat_eq c.0 2 ≡ x → nat_eq c.0 3 ≡ y → nat_eq c.0 4 ≡ z → (x || (y || z)) ≡ false → MayInherit c
    by true y z ex ey ez h = absurd (cc)
    by false true z ex ey ez h = absurd (cc)
    by false false true ex ey ez h = absurd (cc)
    by false false false ex ey ez h = record { no_int = other c.0 2 ex; no_bool = other c.0 3 ey; no_string = other c.0 4 ez }

object_may : MayInherit (class_number 0)
object_may = record { no_int = λ e. omega arith; no_bool = λ e. omega arith; no_string = λ e. omega arith }

class_may : (o : Option ClassId) → class_kind o ≡ None → MayInherit (or_object o)
class_may None e = absurd (cc)
class_may (Some c) e = by (is_barred c) refl e
  where
    by : (b : Bool) → is_barred c ≡ b → (if b then Some C4 else None) ≡ None → MayInherit c
    by true is h = absurd (cc)
    by false is h = not_barred c is

parent_may : (names : List (List ℕ)) (r : Option TypeRef) → parent_faults names r ≡ [] → MayInherit (parent_meant names r)
parent_may names None h = object_may
parent_may names (Some r) h = by (bytes_eq r.name self_type) (no_kind (parent_kind r.name (first_named 0 names r.name)) r.at h)
  where
    by : (b : Bool) → (if b then Some C2 else class_kind (first_named 0 names r.name)) ≡ None → MayInherit (or_object (first_named 0 names r.name))
    by true e = absurd (cc)
    by false e = class_may (first_named 0 names r.name) e

parents_may : (names : List (List ℕ)) (ds : List ClassDef) → parents_faults names ds ≡ [] → (k : ℕ) (q : ClassId) → (get_or (map (class_meant names) ds) k nothing).parent ≡ Some q → MayInherit q
parents_may names [] h k q e = absurd (cc)
parents_may names (d ∷ ds) h zero q e = subst MayInherit (same_Some (parent_meant names d.parent) q e) (parent_may names d.parent (none_both (parent_faults names d.parent) (parents_faults names ds) h).0)
parents_may names (d ∷ ds) h (suc k) q e = parents_may names ds (none_both (parent_faults names d.parent) (parents_faults names ds) h).1 k q e

all_may : (ds : List ClassDef) → parents_faults (names_with_basic ds) ds ≡ [] → (n : ℕ) (q : ClassId) → parent_of (classes_meant ds) (class_number n) ≡ Some q → MayInherit q
all_may ds h zero q e = absurd (cc)
all_may ds h (suc zero) q e = subst MayInherit (same_Some (class_number 0) q e) object_may
all_may ds h (suc (suc zero)) q e = subst MayInherit (same_Some (class_number 0) q e) object_may
all_may ds h (suc (suc (suc zero))) q e = subst MayInherit (same_Some (class_number 0) q e) object_may
all_may ds h (suc (suc (suc (suc zero)))) q e = subst MayInherit (same_Some (class_number 0) q e) object_may
all_may ds h (suc (suc (suc (suc (suc k))))) q e = parents_may (names_with_basic ds) ds h k q e

-- Methods defined anew

-- a method's name that Object has is none of the other basic classes'
object_named : (f : List ℕ) (m : BasicMethod) → method_among object_methods f ≡ Some m → (f ≡ codes "abort") ⊎ ((f ≡ codes "type_name") ⊎ (f ≡ codes "copy"))
object_named f m e = by (bytes_eq (codes "abort") f) (bytes_eq (codes "type_name") f) (bytes_eq (codes "copy") f) refl refl refl
  where
    by : (x y z : Bool) → bytes_eq (codes "abort") f ≡ x → bytes_eq (codes "type_name") f ≡ y → bytes_eq (codes "copy") f ≡ z → (f ≡ codes "abort") ⊎ ((f ≡ codes "type_name") ⊎ (f ≡ codes "copy"))
    by true y z ex ey ez = inl (sym ((bytes_eq-Decides (codes "abort") f).0 ex))
    by false true z ex ey ez = inr (inl (sym ((bytes_eq-Decides (codes "type_name") f).0 ey)))
    by false false true ex ey ez = inr (inr (sym ((bytes_eq-Decides (codes "copy") f).0 ez)))
    by false false false ex ey ez = absurd (nothing_there (sym e))
      where
        nothing_there : Some m ≡ method_among object_methods f → ⊥
        nothing_there h =
            let none : method_among object_methods f ≡ None =
            ap (λ (b : Bool). if b then Some BasicMethod.Abort else (if bytes_eq (codes "type_name") f then Some BasicMethod.TypeName else (if bytes_eq (codes "copy") f then Some BasicMethod.Copy else None))) ex
            ∙ (ap (λ (b : Bool). if b then Some BasicMethod.TypeName else (if bytes_eq (codes "copy") f then Some BasicMethod.Copy else None)) ey
            ∙ ap (λ (b : Bool). if b then Some BasicMethod.Copy else None) ez) in
            cc

apart : (n : ℕ) → n < 5 → n ≢ 0 → (f : List ℕ) (m x : BasicMethod) → method_among object_methods f ≡ Some m → method_among (basic_methods n) f ≡ Some x → ⊥
apart zero less other f m x e g = other refl
apart (suc zero) less other f m x e g = elim (object_named f m e) [
  | inl is ↦ (let h = subst (λ (y : List ℕ). method_among io_methods y ≡ Some x) is g in cc)
  | inr rest ↦ elim rest [ inl is ↦ (let h = subst (λ (y : List ℕ). method_among io_methods y ≡ Some x) is g in cc) | inr is ↦ (let h = subst (λ (y : List ℕ). method_among io_methods y ≡ Some x) is g in cc) ]
]
apart (suc (suc zero)) less other f m x e g = cc
apart (suc (suc (suc zero))) less other f m x e g = cc
apart (suc (suc (suc (suc zero)))) less other f m x e g = elim (object_named f m e) [
  | inl is ↦ (let h = subst (λ (y : List ℕ). method_among string_methods y ≡ Some x) is g in cc)
  | inr rest ↦ elim rest [ inl is ↦ (let h = subst (λ (y : List ℕ). method_among string_methods y ≡ Some x) is g in cc) | inr is ↦ (let h = subst (λ (y : List ℕ). method_among string_methods y ≡ Some x) is g in cc) ]
]
apart (suc (suc (suc (suc (suc n))))) less other f m x e g = omega arith

-- the first method of a name is there, and has it
first_there : (j : ℕ) (fs : List Feature) (f : List ℕ) (k : ℕ) → first_method j fs f ≡ Some k → (i : ℕ) × (k ≡ j + i) × ((m : MethodDef) × (slice_get fs i ≡ Some (Method m)) × (m.name ≡ f))
first_there j [] f k e = absurd (cc)
first_there j (Attribute a ∷ fs) f k e = let (i, sum, rest) = first_there (j + 1) fs f k e in (suc i, omega arith, rest)
first_there j (Method m ∷ fs) f k e = by (bytes_eq m.name f) refl e (first_there (j + 1) fs f k)
  where
    by : (b : Bool) → bytes_eq m.name f ≡ b → cond b (Some j) (first_method (j + 1) fs f) ≡ Some k
        → (first_method (j + 1) fs f ≡ Some k → (i : ℕ) × (k ≡ j + 1 + i) × ((n : MethodDef) × (slice_get fs i ≡ Some (Method n)) × (n.name ≡ f)))
        → (i : ℕ) × (k ≡ j + i) × ((n : MethodDef) × (slice_get (Method m ∷ fs) i ≡ Some (Method n)) × (n.name ≡ f))
    by true is e more = let same : j ≡ k = same_Some j k e in (0, omega arith, (m, refl, (bytes_eq-Decides m.name f).0 is))
    by false is e more = let (i, sum, rest) = more e in (suc i, omega arith, rest)

-- no feature of a class has a fault
pub one_faultless : (p : List Class) (c : ClassId) (ds : List ClassId) (j : ℕ) (fs : List Feature) → features_faults p c ds j fs ≡ [] → (i : ℕ) (x : Feature) → slice_get fs i ≡ Some x → (k : ℕ) → k ≡ j + i → one_feature_faults p c ds k x ≡ []
one_faultless p c ds j [] h i x e k sum = absurd (cc)
one_faultless p c ds j (y ∷ fs) h zero x e k sum =
    let same : y ≡ x = same_Some y x e in
    let here : j ≡ k = omega arith in
    subst (λ (z : Feature). one_feature_faults p c ds k z ≡ []) same (subst (λ (i : ℕ). one_feature_faults p c ds i y ≡ []) here (none_both (one_feature_faults p c ds j y) (features_faults p c ds (j + 1) fs) h).0)
one_faultless p c ds j (y ∷ fs) h (suc i) x e k sum = one_faultless p c ds (j + 1) fs (none_both (one_feature_faults p c ds j y) (features_faults p c ds (j + 1) fs) h).1 i x e k (omega arith)

-- nor has any class of definitions
class_faultless : (p : List Class) (k : ℕ) (ats : List Place) → features_from p k ats ≡ [] → (i : ℕ) → i < length ats → (n : ℕ) → n ≡ k + i → (at : Place) × (class_faults p (class_number n) (above p (class_number n)) at ≡ [])
class_faultless p k [] h i less n sum = absurd (omega arith)
class_faultless p k (at ∷ ats) h zero less n sum =
    let here : k ≡ n = omega arith in
    (at, subst (λ (j : ℕ). class_faults p (class_number j) (above p (class_number j)) at ≡ []) here (none_both (class_faults p (class_number k) (above p (class_number k)) at) (features_from p (suc k) ats) h).0)
class_faultless p k (at ∷ ats) h (suc i) less n sum =
    class_faultless p (suc k) ats (none_both (class_faults p (class_number k) (above p (class_number k)) at) (features_from p (suc k) ats) h).1 i (omega arith) n (omega arith)

-- a class of the program has the methods that its features are
user_has : (p : List Class) (n : ℕ) (f : List ℕ) → 5 ≤ n → own_method p (class_number n) f ≡ user_method (class_number n) (first_method 0 (features_of p (class_number n)) f)
user_has p n f from = ap (λ (b : Bool). if b then option_map Basic (method_among (basic_methods n) f) else user_method (class_number n) (first_method 0 (features_of p (class_number n)) f)) (not_less n from)
  where
    not_less : (n : ℕ) → 5 ≤ n → nat_lt n 5 ≡ false
    not_less n h = grind arith

-- a method that declares nothing otherwise declares the same types
same_signature : (p : List Class) (c : ClassId) (k : ℕ) (d : MethodDef) (n : MethodRef) → slice_get (features_of p c) k ≡ Some (Method d) → declares_otherwise p d n ≡ false → SameSignature p (User c k) n
same_signature p c k d n there h =
    let both = both_true (same_types (declared_types d.formals) (formals_of p n)) (bytes_eq d.result.name (result_of p n)) h in
    record { formals = ap formals_in there ∙ same_types_is (declared_types d.formals) (formals_of p n) both.0; result = ap result_in there ∙ (bytes_eq-Decides d.result.name (result_of p n)).0 both.1 }

-- a class whose features have no fault keeps the types of the methods above it
user_redefined : (p : List Class) (n : ℕ) (ds : List ClassId) (f : List ℕ) (m u : MethodRef) → 5 ≤ n → features_faults p (class_number n) ds 0 (features_of p (class_number n)) ≡ []
    → own_method p (class_number n) f ≡ Some m → implementation p ds f ≡ Some u → SameSignature p m u
user_redefined p n ds f m u from free own over = by (first_method 0 (features_of p (class_number n)) f) refl (sym (user_has p n f from) ∙ own)
  where
    by : (o : Option ℕ) → first_method 0 (features_of p (class_number n)) f ≡ o → user_method (class_number n) o ≡ Some m → SameSignature p m u
    by None e h = absurd (cc)
    by (Some k) e h =
        let (i, sum, (d, there, named)) = first_there 0 (features_of p (class_number n)) f k e in
        let same : i ≡ k = omega arith in
        let at : slice_get (features_of p (class_number n)) k ≡ Some (Method d) = subst (λ (j : ℕ). slice_get (features_of p (class_number n)) j ≡ Some (Method d)) same there in
        let faultless = one_faultless p (class_number n) ds 0 (features_of p (class_number n)) free k (Method d) at k (omega arith) in
        let kept = not_noted (redefines_otherwise p d (implementation p ds d.name)) F7 d.at (none_both (noted (redefines_otherwise p d (implementation p ds d.name)) F7 d.at) _ (none_both (noted _ _ d.at) _ faultless).1).0 in
        let it : redefines_otherwise p d (Some u) ≡ false = subst (λ (o : Option MethodRef). redefines_otherwise p d o ≡ false) over (subst (λ (g : List ℕ). redefines_otherwise p d (implementation p ds g) ≡ false) named kept) in
        subst (λ (x : MethodRef). SameSignature p x u) (same_Some (User (class_number n) k) m h) (same_signature p (class_number n) k d u at it)

-- no basic class defines a method of Object anew
object_only : (p : List Class) (ds : List ClassId) → IsChain p (Some (class_number 0)) ds → parent_of p (class_number 0) ≡ None → (f : List ℕ) → implementation p ds f ≡ first_of (option_map Basic (method_among object_methods f)) None
object_only p [] h top f = absurd h
object_only p (d ∷ []) h top f = ap (λ (c : ClassId). first_of (own_method p c f) None) h.0
object_only p (d ∷ e ∷ ds) h top f = absurd (subst (λ (o : Option ClassId). IsChain p o (e ∷ ds)) top h.1)

basic_apart : (n : ℕ) → n < 5 → n ≢ 0 → (f : List ℕ) (m u : MethodRef) → option_map Basic (method_among (basic_methods n) f) ≡ Some m → first_of (option_map Basic (method_among object_methods f)) None ≡ Some u → ⊥
basic_apart n less other f m u own over = by (method_among (basic_methods n) f) (method_among object_methods f) refl refl own over
  where
    by : (a b : Option BasicMethod) → method_among (basic_methods n) f ≡ a → method_among object_methods f ≡ b → option_map Basic a ≡ Some m → first_of (option_map Basic b) None ≡ Some u → ⊥
    by None b ea eb h k = cc
    by (Some x) None ea eb h k = cc
    by (Some x) (Some y) ea eb h k = apart n less other f y x eb ea

basic_redefined : (ds : List ClassDef) (n : ℕ) (up : List ClassId) (f : List ℕ) (m u : MethodRef) → n < 5 → IsChain (classes_meant ds) (parent_of (classes_meant ds) (class_number n)) up
    → own_method (classes_meant ds) (class_number n) f ≡ Some m → implementation (classes_meant ds) up f ≡ Some u → ⊥
basic_redefined ds zero [] f m u less chain own over = cc
basic_redefined ds zero (d ∷ up) f m u less chain own over = chain
basic_redefined ds (suc zero) up f m u less chain own over = basic_apart 1 less (λ e. omega arith) f m u own (sym (object_only (classes_meant ds) up chain refl f) ∙ over)
basic_redefined ds (suc (suc zero)) up f m u less chain own over = basic_apart 2 less (λ e. omega arith) f m u own (sym (object_only (classes_meant ds) up chain refl f) ∙ over)
basic_redefined ds (suc (suc (suc zero))) up f m u less chain own over = basic_apart 3 less (λ e. omega arith) f m u own (sym (object_only (classes_meant ds) up chain refl f) ∙ over)
basic_redefined ds (suc (suc (suc (suc zero)))) up f m u less chain own over = basic_apart 4 less (λ e. omega arith) f m u own (sym (object_only (classes_meant ds) up chain refl f) ∙ over)
basic_redefined ds (suc (suc (suc (suc (suc n))))) up f m u less chain own over = omega arith

-- Classes and their number

few_basic : (ds : List ClassDef) → length (classes_meant ds) ≡ 5 + length (places ds)
few_basic ds =
    let a : length (map (class_meant (names_with_basic ds)) ds) ≡ length ds = length-map ds (class_meant (names_with_basic ds)) in
    let b : length (places ds) ≡ length ds = length-map ds (λ (d : ClassDef). d.at) in
    omega arith

pub no_fault_of : (ds : List ClassDef) → feature_phase ds ≡ [] → (n : ℕ) → 5 ≤ n → n < length (classes_meant ds) → (at : Place) × (class_faults (classes_meant ds) (class_number n) (above (classes_meant ds) (class_number n)) at ≡ [])
no_fault_of ds free zero from less = absurd (omega arith)
no_fault_of ds free (suc zero) from less = absurd (omega arith)
no_fault_of ds free (suc (suc zero)) from less = absurd (omega arith)
no_fault_of ds free (suc (suc (suc zero))) from less = absurd (omega arith)
no_fault_of ds free (suc (suc (suc (suc zero)))) from less = absurd (omega arith)
no_fault_of ds free (suc (suc (suc (suc (suc i))))) from less =
    let few = few_basic ds in
    class_faultless (classes_meant ds) 5 (places ds) free i (omega arith) (suc (suc (suc (suc (suc i))))) (omega arith)

all_redefined : (ds : List ClassDef) → feature_phase ds ≡ [] → (n : ℕ) → n < length (classes_meant ds) → (up : List ClassId) (f : List ℕ) (m u : MethodRef) → IsChain (classes_meant ds) (parent_of (classes_meant ds) (class_number n)) up
    → own_method (classes_meant ds) (class_number n) f ≡ Some m → implementation (classes_meant ds) up f ≡ Some u → SameSignature (classes_meant ds) m u
all_redefined ds free n within up f m u chain own over = by (nat_lt n 5) refl
  where
    by : (b : Bool) → nat_lt n 5 ≡ b → SameSignature (classes_meant ds) m u
    by true e = absurd (basic_redefined ds n up f m u (ltb-true n 5 e) chain own over)
    by false e =
        let from = ltb-false n 5 e in
        let (at, free) = no_fault_of ds free n from within in
        let some = (none_both (features_faults (classes_meant ds) (class_number n) (above (classes_meant ds) (class_number n)) 0 (features_of (classes_meant ds) (class_number n))) _ free).0 in
        user_redefined (classes_meant ds) n up f m u from
        (subst (λ (cs : List ClassId). features_faults (classes_meant ds) (class_number n) cs 0 (features_of (classes_meant ds) (class_number n)) ≡ []) (above_of (classes_meant ds) (class_number n) up chain) some) own over

-- Main

pub names_of_meant : (names : List (List ℕ)) (ds : List ClassDef) → map (λ (c : Class). c.name) (map (class_meant names) ds) ≡ names_in ds
names_of_meant names [] = refl
names_of_meant names (d ∷ ds) = let rest : map (λ (c : Class). c.name) (map (class_meant names) ds) ≡ names_in ds = names_of_meant names ds in λ i. d.name ∷ rest i

pub names_meant : (ds : List ClassDef) → map (λ (c : Class). c.name) (classes_meant ds) ≡ names_with_basic ds
names_meant ds = ap (λ (ns : List (List ℕ)). basic_names ++ ns) (names_of_meant (names_with_basic ds) ds)

main_class : (ds : List ClassDef) → main_faults (names_with_basic ds) ≡ [] → (c : ClassId) × (first_named 0 (names_with_basic ds) (codes "Main") ≡ Some c)
main_class ds h = by (first_named 0 (names_with_basic ds) (codes "Main")) refl (no_kind (if is_none (first_named 0 (names_with_basic ds) (codes "Main")) then Some C6 else None) (record { file = 0; line = 1; byte = 0 }) h)
  where
    by : (o : Option ClassId) → first_named 0 (names_with_basic ds) (codes "Main") ≡ o → (if is_none o then Some C6 else None) ≡ None → (c : ClassId) × (first_named 0 (names_with_basic ds) (codes "Main") ≡ Some c)
    by None e k = absurd (cc)
    by (Some c) e k = (c, e)

-- Main is no basic class
main_later : (ds : List ClassDef) (n : ℕ) → name_of (classes_meant ds) (class_number n) ≡ codes "Main" → 5 ≤ n
main_later ds zero e = absurd (true≢false (ap (bytes_eq (codes "Object")) e))
main_later ds (suc zero) e = absurd (true≢false (ap (bytes_eq (codes "IO")) e))
main_later ds (suc (suc zero)) e = absurd (true≢false (ap (bytes_eq (codes "Int")) e))
main_later ds (suc (suc (suc zero))) e = absurd (true≢false (ap (bytes_eq (codes "Bool")) e))
main_later ds (suc (suc (suc (suc zero)))) e = absurd (true≢false (ap (bytes_eq (codes "String")) e))
main_later ds (suc (suc (suc (suc (suc n))))) e = omega arith

main_method : (p : List Class) (n : ℕ) → 5 ≤ n → n < length p → name_of p (class_number n) ≡ codes "Main" → lacks_main p (class_number n) ≡ false → HasMain p
main_method p n from within named h =
    by (first_method 0 (features_of p (class_number n)) (codes "main")) refl
    (subst (λ (b : Bool). (b && lacks_main_at (features_of p (class_number n)) (first_method 0 (features_of p (class_number n)) (codes "main"))) ≡ false) ((bytes_eq-Decides (name_of p (class_number n)) (codes "Main")).1 named) h)
  where
    none : (ts : List (List ℕ)) → has_formals ts ≡ false → ts ≡ []
    none [] k = refl
    none (t ∷ ts) k = absurd (cc)

    by : (o : Option ℕ) → first_method 0 (features_of p (class_number n)) (codes "main") ≡ o → lacks_main_at (features_of p (class_number n)) o ≡ false → HasMain p
    by None e k = absurd (cc)
    by (Some i) e k = record {
      class = class_number n;
      within = within;
      name = named;
      method = User (class_number n) i;
      own = user_has p n (codes "main") from ∙ ap (user_method (class_number n)) e;
      formals = none (formals_in (slice_get (features_of p (class_number n)) i)) k;
    }

has_main : (ds : List ClassDef) → main_faults (names_with_basic ds) ≡ [] → feature_phase ds ≡ [] → HasMain (classes_meant ds)
has_main ds h free =
    let (c, is) = main_class ds h in
    let (within, named) = named_back (classes_meant ds) (codes "Main") c (ap (λ (ns : List (List ℕ)). first_named 0 ns (codes "Main")) (names_meant ds) ∙ is) in
    let from = main_later ds c.0 named in
    let (at, none) = no_fault_of ds free c.0 from within in
    main_method (classes_meant ds) c.0 from within named
    (not_noted (lacks_main (classes_meant ds) c) F8 at (none_both (noted (lacks_main (classes_meant ds) c) F8 at) _ (none_both (features_faults (classes_meant ds) c (above (classes_meant ds) c) 0 (features_of (classes_meant ds) c)) _ none).1).0)

-- Features of all classes

-- the basic classes have no features
basic_free : (ds : List ClassDef) (n : ℕ) (up : List ClassId) → n < 5 → features_faults (classes_meant ds) (class_number n) up 0 (features_of (classes_meant ds) (class_number n)) ≡ []
basic_free ds zero up less = refl
basic_free ds (suc zero) up less = refl
basic_free ds (suc (suc zero)) up less = refl
basic_free ds (suc (suc (suc zero))) up less = refl
basic_free ds (suc (suc (suc (suc zero)))) up less = refl
basic_free ds (suc (suc (suc (suc (suc n))))) up less = absurd (omega arith)

-- the features of no class have a fault, below its chain
all_free : (ds : List ClassDef) → feature_phase ds ≡ [] → (n : ℕ) → n < length (classes_meant ds) → (up : List ClassId) → IsChain (classes_meant ds) (parent_of (classes_meant ds) (class_number n)) up
    → features_faults (classes_meant ds) (class_number n) up 0 (features_of (classes_meant ds) (class_number n)) ≡ []
all_free ds free n within up chain = by (nat_lt n 5) refl
  where
    by : (b : Bool) → nat_lt n 5 ≡ b → features_faults (classes_meant ds) (class_number n) up 0 (features_of (classes_meant ds) (class_number n)) ≡ []
    by true e = basic_free ds n up (ltb-true n 5 e)
    by false e =
        let (at, none) = no_fault_of ds free n (ltb-false n 5 e) within in
        subst (λ (cs : List ClassId). features_faults (classes_meant ds) (class_number n) cs 0 (features_of (classes_meant ds) (class_number n)) ≡ []) (above_of (classes_meant ds) (class_number n) up chain)
        (none_both (features_faults (classes_meant ds) (class_number n) (above (classes_meant ds) (class_number n)) 0 (features_of (classes_meant ds) (class_number n))) _ none).0

-- A whole table without faults keeps the rules of classes.
pub lawful_meant : (ds : List ClassDef) → IsWholeTable (classes_meant ds) → HasClassPhase ds [] → feature_phase ds ≡ [] → IsLawful (classes_meant ds)
lawful_meant ds whole (cyclic, on, none) free =
    let rest = (none_both (names_faults basic_names ds) _ (sym none)).1 in
    let parents = none_both (parents_faults (names_with_basic ds) ds) _ rest in
    let mains = none_both (main_faults (names_with_basic ds)) _ (none_both (cycle_faults ds cyclic) _ parents.1).1 in
    record {
      parents = λ c q within e. all_may ds parents.0 c.0 q e;
      redefined = λ c up f m n within chain own over. all_redefined ds free c.0 within up f m n chain own over;
      formals = λ c within. formals_named (classes_meant ds) whole (λ d w up chain. all_free ds free d.0 w up chain) c within;
      methods = λ c within. methods_named (classes_meant ds) whole (λ d w up chain. all_free ds free d.0 w up chain) c within;
      attributes = λ c up within chain. attributes_named (classes_meant ds) whole (λ d w above chain'. all_free ds free d.0 w above chain') c within up chain;
      main = has_main ds mains.0 free;
    }
