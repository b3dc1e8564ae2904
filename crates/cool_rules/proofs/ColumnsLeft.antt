-- In a loop that collects the types of nodes, the lists of types of one class come before those of the remaining classes.
use Rattle.std.proofs.Common.{◌≡◌, ℕ, zero, suc, ◌+◌, ◌<◌, List, [], ◌∷◌, ◌++◌, length, drop, refl, ap, sym, ◌∙◌, append_assoc, arith}
use Rattle.std.specs.Global.{Vec}
use Rattle.std.proofs.lemmas.List.{map-append}
use native.Mathlib.Numerals.{add-one}
use Rattle.cool_classes.specs.declared.class_id.Ty.{Ty}
use Rattle.cool_classes.specs.Chains.{Class, class_number, features_of}
use Rattle.cool_rules.specs.NodeTypes.{features_types, classes_types, columns_of}

-- the columns from a class on are its columns and those of the classes after it
classes_first : (p : List Class) (n : ℕ) (ds : List Class) (k : ℕ) → k < length ds
    → classes_types p n (drop k ds) ≡ features_types p (class_number n) (features_of ds (class_number k)) ∷ classes_types p (suc n) (drop (suc k) ds)
classes_first p n [] k within = absurd (omega arith)
classes_first p n (d ∷ ds) zero within = refl
classes_first p n (d ∷ ds) (suc k) within = classes_first p n ds k (omega arith)

-- the columns of a class are found before those of the classes after it
pub columns_later : (p : List Class) (before : List (Vec (List Ty))) (k : ℕ) (columns : Vec (List Ty)) → k < length p
    → columns.items ≡ features_types p (class_number k) (features_of p (class_number k))
    → columns_of (before ++ columns ∷ []) ++ classes_types p (k + 1) (drop (k + 1) p) ≡ columns_of before ++ classes_types p k (drop k p)
columns_later p before k columns within is =
    let here = features_types p (class_number k) (features_of p (class_number k)) in
    let rest = classes_types p (k + 1) (drop (k + 1) p) in
    let first : classes_types p k (drop k p) ≡ here ∷ rest =
    classes_first p k p k within ∙ ap (λ (j : ℕ). here ∷ classes_types p j (drop j p)) (sym (add-one k)) in
    ap (λ (ts : List (List (List Ty))). ts ++ rest)
    (map-append (λ (held : Vec (List Ty)). held.items) before (columns ∷ []) ∙ ap (λ (t : List (List Ty)). columns_of before ++ t ∷ []) is)
    ∙ append_assoc (columns_of before) (here ∷ []) rest
    ∙ sym (ap (λ (left : List (List (List Ty))). columns_of before ++ left) first)
