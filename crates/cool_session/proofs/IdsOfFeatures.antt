-- If the next feature of a class is added to the list of features so far, this list and the features that are left are still all features of the class.
use Rattle.std.proofs.Common.{◌≡◌, ℕ, zero, suc, ◌+◌, ◌<◌, List, [], ◌∷◌, ◌++◌, length, drop, refl, sym, ap, ◌∙◌, arith, append_assoc}
use Rattle.cool_syntax.specs.declared.file_tree.Feature.{Feature}
use Rattle.cool_classes.specs.declared.class_id.ClassId.{ClassId}
use Rattle.cool_session.specs.declared.ids.FeatureId.{FeatureId}
use Rattle.cool_session.specs.Ids.{ids_in}

first_id : (c : ClassId) (k i : ℕ) (xs : List Feature) → i < length xs
    → ids_in c k (drop i xs) ≡ record { class = c; index = k } ∷ ids_in c (k + 1) (drop (i + 1) xs)
first_id c k i [] less = absurd (omega arith)
first_id c k zero (x ∷ xs) less = refl
first_id c k (suc i) (x ∷ xs) less =
    let fewer : i < length xs = omega (arith, less) in
    let place : suc (i + 1) ≡ suc i + 1 = omega arith in
    first_id c k i xs fewer ∙ ap (λ (n : ℕ). record { class = c; index = k } ∷ ids_in c (k + 1) (drop n (x ∷ xs))) place

-- one more feature, and those that are left
pub next_id : (c : ClassId) (i : ℕ) (xs : List Feature) (before now : List FeatureId) → i < length xs
    → now ≡ before ++ record { class = c; index = i } ∷ [] → now ++ ids_in c (i + 1) (drop (i + 1) xs) ≡ before ++ ids_in c i (drop i xs)
next_id c i xs before now less is =
    ap (λ (all : List FeatureId). all ++ ids_in c (i + 1) (drop (i + 1) xs)) is
    ∙ (append_assoc before (record { class = c; index = i } ∷ []) (ids_in c (i + 1) (drop (i + 1) xs))
    ∙ ap (λ (all : List FeatureId). before ++ all) (sym (first_id c i i xs less)))
