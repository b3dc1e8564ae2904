-- Each type that a method of a complete class table declares is a type of that class table.
use Rattle.std.proofs.Common.{◌≡◌, ℕ, zero, suc, ◌<◌, ◌≤◌, List, [], ◌∷◌, length, map, take, get_or, slice_get, Some, ap, sym, ◌∙◌, refl, subst, arith}
use Rattle.std.specs.List.{AllByRecursion}
use Rattle.std.proofs.lemmas.Option.{slice_get-get_or}
use Rattle.std.proofs.lemmas.List.{get_or-map, length-map}
use Rattle.cool_syntax.specs.declared.file_tree.Feature.{Feature}
use Rattle.cool_syntax.specs.declared.file_tree.Feature.TheVariants.{Method}
use Rattle.cool_syntax.specs.declared.file_tree.MethodDef.{MethodDef}
use Rattle.cool_syntax.specs.declared.file_tree.Formal.{Formal}
use Rattle.cool_classes.specs.declared.class_id.ClassId.{ClassId}
use Rattle.cool_classes.specs.declared.class_id.Ty.{Ty}
use Rattle.cool_classes.specs.declared.class_id.Ty.TheVariants.{Class as IsClass, SelfType}
use Rattle.cool_classes.specs.declared.method.MethodRef.{MethodRef}
use Rattle.cool_classes.specs.declared.method.MethodRef.TheVariants.{User}
use Rattle.cool_classes.specs.Chains.{Class, features_of}
use Rattle.cool_classes.specs.Features.{Denotes, formals_in, result_in, formals_of, result_of, IsMethod}
use Rattle.cool_classes.specs.Tables.{basic_classes, IsTable, IsTyped, IsClassName, IsTypeName}
use Rattle.cool_classes.proofs.BasicLimits.{class_there}
use Rattle.lists.proofs.AllItems.{all_at}

five : (p : List Class) → length (take 5 p) ≡ 5 → 5 ≤ length p
five [] e = absurd (omega (arith, e))
five (a ∷ []) e = absurd (omega (arith, e))
five (a ∷ b ∷ []) e = absurd (omega (arith, e))
five (a ∷ b ∷ c ∷ []) e = absurd (omega (arith, e))
five (a ∷ b ∷ c ∷ d ∷ []) e = absurd (omega (arith, e))
five (a ∷ b ∷ c ∷ d ∷ f ∷ p) e = omega arith

-- a name that denotes a type among the basic classes denotes it in every table
pub denotes_there : (p : List Class) (name : List ℕ) (t : Ty) → take 5 p ≡ basic_classes → Denotes basic_classes name t → Denotes p name t
denotes_there p name (IsClass c) basic (within, is) =
    let low : c.0 < 5 = within in
    let all : 5 ≤ length p = five p (ap length basic) in
    (omega arith, ap (λ (x : Class). x.name) (class_there p c.0 basic low) ∙ is)
denotes_there p name SelfType basic is = is

-- a method that is there stands within the list
pub method_within : (fs gs : List Feature) (k : ℕ) → fs ≡ gs → IsMethod (slice_get fs k) → k < length gs
method_within fs gs k same h = by gs k (subst (λ (hs : List Feature). IsMethod (slice_get hs k)) same h)
  where
    by : (gs : List Feature) (k : ℕ) → IsMethod (slice_get gs k) → k < length gs
    by [] k h = absurd h
    by (x ∷ gs) zero h = omega arith
    by (x ∷ gs) (suc k) h = let less : k < length gs = by gs k h in omega arith

-- the feature at an index
pub feature_there : (fs gs : List Feature) (k : ℕ) (x y : Feature) → fs ≡ gs → k < length gs → x ≡ get_or gs k x → x ≡ y → slice_get fs k ≡ Some y
feature_there fs gs k x y same within is at = ap (λ (hs : List Feature). slice_get hs k) same ∙ slice_get-get_or gs k x within ∙ ap Some (sym is ∙ at)

typed_there : (p : List Class) (c : ClassId) (fs gs : List Feature) (k : ℕ) (x y : Feature) → IsTable p → c.0 < length p → fs ≡ features_of p c → fs ≡ gs → k < length gs → x ≡ get_or gs k x → x ≡ y
    → IsTyped p y
typed_there p c fs gs k x y t inside there same within is at =
    let all : AllByRecursion (IsTyped p) gs = subst (AllByRecursion (IsTyped p)) (sym there ∙ same) (t.types c inside) in
    subst (IsTyped p) (sym is ∙ at) (all_at (IsTyped p) gs k x all within)

pub method_typed : (p : List Class) (c : ClassId) (gs : List Feature) (k : ℕ) (x : Feature) (m : MethodDef) → IsTable p → c.0 < length p → features_of p c ≡ gs → k < length gs → x ≡ get_or gs k x
    → x ≡ Method m → IsTyped p (Method m)
method_typed p c gs k x m t inside same within is at = typed_there p c (features_of p c) gs k x (Method m) t inside refl same within is at

-- the type of a formal is a class
class_is_type : (p : List Class) (name : List ℕ) → IsClassName p name → IsTypeName p name
class_is_type p name (c, within, is) = (IsClass c, (within, is))

pub formal_typed : (p : List Class) (m : MethodDef) (fs : List Formal) (i : ℕ) (f : Formal) (name : List ℕ) → IsTyped p (Method m) → fs ≡ m.formals → i < length fs
    → name ≡ (get_or fs i f).declared.name → IsTypeName p name
formal_typed p m fs i f name typed same within named =
    let all : AllByRecursion (λ (f : Formal). IsClassName p f.declared.name) fs = subst (AllByRecursion (λ (f : Formal). IsClassName p f.declared.name)) (sym same) typed.1 in
    let here : IsClassName p (get_or fs i f).declared.name = all_at (λ (f : Formal). IsClassName p f.declared.name) fs i f all within in
    subst (IsTypeName p) (sym named) (class_is_type p (get_or fs i f).declared.name here)

-- the name of the type of a formal, where the source has it
pub formal_named : (p : List Class) (r : MethodRef) (c : ClassId) (k : ℕ) (m : MethodDef) (fs : List Formal) (i : ℕ) (f : Formal) (name : List ℕ) → r ≡ User c k
    → slice_get (features_of p c) k ≡ Some (Method m) → fs ≡ m.formals → i < length fs → name ≡ (get_or fs i f).declared.name → name ≡ get_or (formals_of p r) i []
formal_named p r c k m fs i f name user there same within named =
    let formals : formals_of p r ≡ map (λ (f : Formal). f.declared.name) fs =
    ap (formals_of p) user ∙ ap formals_in there ∙ ap (map (λ (f : Formal). f.declared.name)) (sym same) in
    named ∙ sym (get_or-map (λ (f : Formal). f.declared.name) fs i f [] within) ∙ ap (λ (xs : List (List ℕ)). get_or xs i []) (sym formals)

pub formal_within : (p : List Class) (r : MethodRef) (c : ClassId) (k : ℕ) (m : MethodDef) (fs : List Formal) (i : ℕ) → r ≡ User c k → slice_get (features_of p c) k ≡ Some (Method m)
    → fs ≡ m.formals → i < length (formals_of p r) → i < length fs
formal_within p r c k m fs i user there same within =
    let formals : formals_of p r ≡ map (λ (f : Formal). f.declared.name) fs =
    ap (formals_of p) user ∙ ap formals_in there ∙ ap (map (λ (f : Formal). f.declared.name)) (sym same) in
    let l : length (formals_of p r) ≡ length fs = ap length formals ∙ length-map fs (λ (f : Formal). f.declared.name) in
    omega arith

pub result_named : (p : List Class) (r : MethodRef) (c : ClassId) (k : ℕ) (m : MethodDef) (name : List ℕ) → r ≡ User c k → slice_get (features_of p c) k ≡ Some (Method m)
    → name ≡ m.result.name → name ≡ result_of p r
result_named p r c k m name user there named = named ∙ sym (ap result_in there) ∙ sym (ap (result_of p) user)
