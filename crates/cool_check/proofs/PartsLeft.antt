-- In a loop over formal parameters or features, the result for those from one position on is that of the one there, followed by that of those after it.
use Rattle.std.proofs.Common.{◌≡◌, ℕ, zero, suc, ◌+◌, ◌<◌, List, [], ◌∷◌, ◌++◌, length, map, drop, get_or, Option, Some, ap, sym, ◌∙◌, refl, subst, arith, append_assoc}
use Rattle.std.specs.List.{AllByRecursion}
use Rattle.cool_syntax.specs.declared.file_tree.Feature.{Feature}
use Rattle.cool_syntax.specs.declared.file_tree.Feature.TheVariants.{Method}
use Rattle.cool_syntax.specs.declared.file_tree.Formal.{Formal}
use Rattle.cool_syntax.specs.declared.file_tree.MethodDef.{MethodDef}
use Rattle.cool_classes.specs.declared.class_id.ClassId.{ClassId}
use Rattle.cool_classes.specs.declared.class_id.Ty.{Ty}
use Rattle.cool_classes.specs.Chains.{Class, class_number, features_of}
use Rattle.cool_classes.specs.Features.{formals_in}
use Rattle.cool_rules.specs.NodeTypes.{feature_types, features_types}
use Rattle.cool_rules.specs.Scopes.{Binding, entered}
use Rattle.cool_check.specs.declared.fault.TypeFault.{TypeFault}
use Rattle.cool_rules.specs.Rules.{formal_binding}
use Rattle.cool_check.specs.FirstFaults.{Checked}
use Rattle.cool_check.specs.TypingFaults.{feature_checked, fault_of, features_faults, classes_faults}
use Rattle.lists.proofs.ItemsLeft.{drop_one}

-- a formal is entered before those after it
pub formals_later : (p : List Class) (fs : List Formal) (o : List Binding) (i : ℕ) (f : Formal) → i < length fs → f ≡ get_or fs i f
    → entered (map (formal_binding p) (drop (i + 1) fs)) (formal_binding p f ∷ o) ≡ entered (map (formal_binding p) (drop i fs)) o
formals_later p fs o i f within is = sym (ap (λ (gs : List Formal). entered (map (formal_binding p) gs) o) (drop_one fs i f within is))

-- the type that a formal declares
formal_there : (fs : List Formal) (i : ℕ) (f : Formal) → i < length fs → f ≡ get_or fs i f → get_or (map (λ (g : Formal). g.declared.name) fs) i [] ≡ f.declared.name
formal_there [] i f within is = absurd (omega arith)
formal_there (g ∷ fs) zero f within is = sym (ap (λ (x : Formal). x.declared.name) is)
formal_there (g ∷ fs) (suc i) f within is = formal_there fs i f (omega arith) is

pub formal_declared : (o : Option Feature) (m : MethodDef) (i : ℕ) (f : Formal) → o ≡ Some (Method m) → i < length m.formals → f ≡ get_or m.formals i f → get_or (formals_in o) i [] ≡ f.declared.name
formal_declared o m i f is within there = ap (λ (x : Option Feature). get_or (formals_in x) i []) is ∙ formal_there m.formals i f within there

-- the findings of a feature come before the faults of the features after it
pub features_later : (p : List Class) (c : ClassId) (fs gs : List Feature) (before : List TypeFault) (i : ℕ) (x : Feature) (r : Checked (Unit {0})) → gs ≡ fs → i < length gs → x ≡ get_or gs i x
    → feature_checked p c x ≡ r → (before ++ fault_of r) ++ features_faults p c (drop (i + 1) fs) ≡ before ++ features_faults p c (drop i fs)
features_later p c fs gs before i x r same within is gives =
    let first = drop_one gs i x within is in
    let there : drop i fs ≡ x ∷ drop (i + 1) fs = subst (λ (hs : List Feature). drop i hs ≡ x ∷ drop (i + 1) hs) same first in
    let all : features_faults p c (drop i fs) ≡ fault_of r ++ features_faults p c (drop (i + 1) fs) =
    ap (features_faults p c) there ∙ ap (λ (o : Checked (Unit {0})). fault_of o ++ features_faults p c (drop (i + 1) fs)) gives in
    append_assoc before (fault_of r) (features_faults p c (drop (i + 1) fs)) ∙ sym (ap (λ (hs : List TypeFault). before ++ hs) all)

-- nothing in the middle
pub nothing_between : {X : Type 0} (xs ys : List X) → (xs ++ []) ++ ys ≡ xs ++ ys
nothing_between [] ys = refl
nothing_between (x ∷ xs) ys = ap (λ zs. x ∷ zs) (nothing_between xs ys)

-- the faults of a class are found before those of the classes after it
class_first : (p cs : List Class) (k j : ℕ) → k < length cs → classes_faults p (j + k) (drop k cs) ≡ features_faults p (class_number (j + k)) (features_of cs (class_number k)) ++ classes_faults p (suc (j + k)) (drop (suc k) cs)
class_first p [] k j within = absurd (omega arith)
class_first p (x ∷ cs) zero j within = refl
class_first p (x ∷ cs) (suc k) j within =
    let n : j + suc k ≡ suc j + k = omega arith in
    rw n (class_first p cs k (suc j) (omega arith))

pub classes_later : (p : List Class) (before : List TypeFault) (k : ℕ) → k < length p
    → (before ++ features_faults p (class_number k) (features_of p (class_number k))) ++ classes_faults p (k + 1) (drop (k + 1) p) ≡ before ++ classes_faults p k (drop k p)
classes_later p before k within =
    let z : 0 + k ≡ k = omega arith in
    let n : suc k ≡ k + 1 = omega arith in
    let here = subst (λ (j : ℕ). classes_faults p j (drop k p) ≡ features_faults p (class_number j) (features_of p (class_number k)) ++ classes_faults p (suc j) (drop (suc k) p)) z (class_first p p k 0 within) in
    let next = subst (λ (j : ℕ). classes_faults p k (drop k p) ≡ features_faults p (class_number k) (features_of p (class_number k)) ++ classes_faults p j (drop j p)) n here in
    append_assoc before (features_faults p (class_number k) (features_of p (class_number k))) (classes_faults p (k + 1) (drop (k + 1) p)) ∙ sym (ap (λ (fs : List TypeFault). before ++ fs) next)

-- the types of the nodes of a feature are found before those of the features after it
pub columns_later : (p : List Class) (c : ClassId) (fs gs : List Feature) (before : List (List Ty)) (i : ℕ) (x : Feature) (column : List Ty) → gs ≡ fs → i < length gs → x ≡ get_or gs i x
    → column ≡ feature_types p c x → (before ++ column ∷ []) ++ features_types p c (drop (i + 1) fs) ≡ before ++ features_types p c (drop i fs)
columns_later p c fs gs before i x column same within is gives =
    let there : drop i fs ≡ x ∷ drop (i + 1) fs = subst (λ (hs : List Feature). drop i hs ≡ x ∷ drop (i + 1) hs) same (drop_one gs i x within is) in
    append_assoc before (column ∷ []) (features_types p c (drop (i + 1) fs))
    ∙ ap (λ (t : List Ty). before ++ t ∷ features_types p c (drop (i + 1) fs)) gives
    ∙ sym (ap (λ (hs : List Feature). before ++ features_types p c hs) there)

-- a property of all holds of each
holds_there : {X : Type 0} (P : X → Type 0) (xs : List X) (i : ℕ) (x : X) → AllByRecursion P xs → i < length xs → x ≡ get_or xs i x → P x
holds_there P [] i x h within is = absurd (omega arith)
holds_there P (y ∷ xs) zero x h within is = subst P (sym is) h.0
holds_there P (y ∷ xs) (suc i) x h within is = holds_there P xs i x h.1 (omega arith) is

pub holds_at : {X : Type 0} (P : X → Type 0) (xs ys : List X) (i : ℕ) (x : X) → AllByRecursion P xs → ys ≡ xs → i < length ys → x ≡ get_or ys i x → P x
holds_at P xs ys i x h same within is = holds_there P ys i x (subst (AllByRecursion P) (sym same) h) within is
