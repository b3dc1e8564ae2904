-- If a feature of a class table is replaced by one that declares the same, the new feature is at the same position, and replacing it again by the old one
-- restores the table.
use Rattle.std.proofs.Common.{◌≡◌, ℕ, zero, suc, ◌<◌, List, [], ◌∷◌, length, Some, sym, ap, ◌∙◌, subst, arith, refl}
use Rattle.std.specs.List.{slice_get}
use Rattle.std.proofs.lemmas.Option.{slice_get_within, get_or_from_slice_get}
use Rattle.cool_syntax.specs.declared.file_tree.Feature.{Feature}
use Rattle.cool_classes.specs.declared.class_id.ClassId.{ClassId}
use Rattle.cool_classes.specs.Bodies.{changed_at, with_feature_at}
use Rattle.cool_classes.specs.Chains.{Class, class_number, features_of}
use Rattle.cool_classes.specs.Declarations.{DeclareSame, IsDeclaredBy, AllDeclareSame, AreAllAlike}
use Rattle.cool_classes.proofs.AlikeTables.{features_alike}
use Rattle.cool_classes.proofs.SwappedBodies.{length_changed, alike_with_feature}
use Rattle.cool_session.proofs.AlikeInTurn.{declare_back}

-- Lists

changed_back : (k : ℕ) (x y : Feature) (xs : List Feature) → slice_get xs k ≡ Some y
    → changed_at k (λ (z : Feature). y) (changed_at k (λ (z : Feature). x) xs) ≡ xs
changed_back k x y [] there = refl
changed_back zero x y (z ∷ xs) there = ap (λ (w : Feature). w ∷ xs) (sym (get_or_from_slice_get (z ∷ xs) 0 y z there))
changed_back (suc k) x y (z ∷ xs) there = ap (λ (ws : List Feature). z ∷ ws) (changed_back k x y xs there)

changed_there : (k : ℕ) (x y : Feature) (xs : List Feature) → slice_get xs k ≡ Some y
    → slice_get (changed_at k (λ (z : Feature). x) xs) k ≡ Some x
changed_there k x y [] there = let less : k < 0 = slice_get_within [] k y there in absurd (omega (arith, less))
changed_there zero x y (z ∷ xs) there = refl
changed_there (suc k) x y (z ∷ xs) there = changed_there k x y xs there

-- Tables

swapped_at : (n k : ℕ) (x y : Feature) (p : List Class) → slice_get (features_of p (class_number n)) k ≡ Some y
    → with_feature_at (with_feature_at p (class_number n) k x) (class_number n) k y ≡ p
swapped_at n k x y [] there = refl
swapped_at zero k x y (d ∷ p) there = ap (λ (xs : List Feature). record d { features = xs } ∷ p) (changed_back k x y d.features there)
swapped_at (suc n) k x y (d ∷ p) there = ap (λ (ds : List Class). d ∷ ds) (swapped_at n k x y p there)

there_now : (n k : ℕ) (x y : Feature) (p : List Class) → slice_get (features_of p (class_number n)) k ≡ Some y
    → slice_get (features_of (with_feature_at p (class_number n) k x) (class_number n)) k ≡ Some x
there_now n k x y [] there = let less : k < 0 = slice_get_within [] k y there in absurd (omega (arith, less))
there_now zero k x y (d ∷ p) there = changed_there k x y d.features there
there_now (suc n) k x y (d ∷ p) there = there_now n k x y p there

-- The declarations of features

declared_in : (k : ℕ) (xs ys : List Feature) (x y : Feature) → AllDeclareSame xs ys → slice_get xs k ≡ Some x → slice_get ys k ≡ Some y
    → DeclareSame x y
declared_in k [] ys x y h here there = let less : k < 0 = slice_get_within [] k x here in absurd (omega (arith, less))
declared_in k (a ∷ xs) [] x y h here there = absurd h
declared_in zero (a ∷ xs) (b ∷ ys) x y (h, hs) here there =
    subst (λ (z : Feature). DeclareSame x z) (get_or_from_slice_get (b ∷ ys) 0 y b there)
    (subst (λ (z : Feature). DeclareSame z b) (get_or_from_slice_get (a ∷ xs) 0 x a here) h)
declared_in (suc k) (a ∷ xs) (b ∷ ys) x y (h, hs) here there = declared_in k xs ys x y hs here there

-- features at one place of tables that are alike
pub declared_at : (q p : List Class) (c : ClassId) (k : ℕ) (x y : Feature) → AreAllAlike q p → slice_get (features_of q c) k ≡ Some x
    → slice_get (features_of p c) k ≡ Some y → DeclareSame x y
declared_at q p c k x y alike = declared_in k (features_of q c) (features_of p c) x y (features_alike q p c alike)

-- a table with another feature in the place of one
module _ (p : List Class) (c : ClassId) (k : ℕ) (x y : Feature) (there : slice_get (features_of p c) k ≡ Some y) where
  pub swapped_back : with_feature_at (with_feature_at p c k x) c k y ≡ p
  swapped_back = swapped_at c.0 k x y p there

  pub feature_now : slice_get (features_of (with_feature_at p c k x) c) k ≡ Some x
  feature_now = there_now c.0 k x y p there

  pub as_many_classes : length (with_feature_at p c k x) ≡ length p
  as_many_classes = length_changed _ p c.0

  module _ (same : DeclareSame y x) where
    pub declared_now : IsDeclaredBy y (slice_get (features_of (with_feature_at p c k x) c) k)
    declared_now = subst (IsDeclaredBy y) (sym feature_now) (declare_back y x same)

    pub alike_now : AreAllAlike p (with_feature_at p c k x)
    alike_now = alike_with_feature p c.0 k x (subst (IsDeclaredBy x) (sym there) same)

    -- and no other stands there
    pub only_now : (q : List Class) (z : Feature) → q ≡ with_feature_at p c k x → slice_get (features_of q c) k ≡ Some z → x ≡ z
    only_now q z now there' =
        let found : slice_get (features_of (with_feature_at p c k x) c) k ≡ Some z =
        subst (λ (r : List Class). slice_get (features_of r c) k ≡ Some z) now there' in
        sym (get_or_from_slice_get (features_of (with_feature_at p c k x) c) k x x feature_now)
        ∙ get_or_from_slice_get (features_of (with_feature_at p c k x) c) k z x found
