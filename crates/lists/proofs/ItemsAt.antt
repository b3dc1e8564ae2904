-- Lemmas on the item at a position of a list, also after another list is appended or an item is written.
use Rattle.std.proofs.Common.{◌≡◌, ℕ, zero, suc, ◌<◌, List, [], ◌∷◌, ◌++◌, length, get_or, set, replicate, slice_get, slice_set, ◌==◌, Option, Some, None, IsSome, is_some, cond, inl, inr, refl, ap, ◌∙◌, arith, get_or-set_same, get_or-set_other}
use Rattle.std.proofs.Math.ListN.{get_or-eq_default}
use Rattle.std.proofs.lemmas.Bool.{cases_eq}
use Rattle.std.proofs.lemmas.List.{get_or-replicate, length-replicate}

-- within the list there is one
pub there_is : {X : Type 0} (xs : List X) (k : ℕ) → k < length xs → (x : X) × (slice_get xs k ≡ Some x)
there_is [] k less = absurd (omega arith)
there_is (x ∷ xs) zero less = (x, refl)
there_is (x ∷ xs) (suc k) less = there_is xs k (omega arith)

-- appending a list changes none of the items before
pub front_get : {X : Type 0} (xs ys : List X) (k : ℕ) → k < length xs → slice_get (xs ++ ys) k ≡ slice_get xs k
front_get [] ys k h = absurd (omega arith)
front_get (x ∷ xs) ys zero h = refl
front_get (x ∷ xs) ys (suc k) h = front_get xs ys k (omega arith)

pub after_get : {X : Type 0} (xs ys : List X) (k : ℕ) (x : X) → slice_get xs k ≡ Some x → slice_get (xs ++ ys) k ≡ Some x
after_get [] ys k x e = absurd (cc)
after_get (z ∷ xs) ys zero x e = e
after_get (z ∷ xs) ys (suc k) x e = after_get xs ys k x e

-- right behind a list stands the first item of what comes after it
pub seam_get : {X : Type 0} (xs : List X) (x : X) (ys : List X) → slice_get (xs ++ x ∷ ys) (length xs) ≡ Some x
seam_get [] x ys = refl
seam_get (z ∷ xs) x ys = seam_get xs x ys

-- known values stay known if a value is set
pub known_set : (known : List (Option ℕ)) (k d j : ℕ) → k < length known → IsSome (get_or known j None) → IsSome (get_or (set known k (Some d)) j None)
known_set known k d j within some =
    elim (cases_eq j k) [
      | inl same ↦ ap (λ (n : ℕ). is_some (get_or (set known k (Some d)) n None)) same ∙ ap (λ (o : Option ℕ). is_some o) (get_or-set_same known k (Some d) None within)
      | inr other ↦ ap (λ (o : Option ℕ). is_some o) (get_or-set_other known k j (Some d) None other) ∙ some
    ]

-- each number among zeros is zero, and behind them, too
pub get_zeros : (n i : ℕ) → get_or {A = ℕ} (replicate n 0) i 0 ≡ 0
get_zeros n i = grind (arith, get_or-replicate, get_or-eq_default, length-replicate)

-- the items of a list after a write
pub get_set : (l : List ℕ) (i x j : ℕ) → i < length l → get_or (slice_set l i x) j 0 ≡ cond (j == i) x (get_or l j 0)
get_set l i x j h = grind (arith, get_or-set_same, get_or-set_other)
