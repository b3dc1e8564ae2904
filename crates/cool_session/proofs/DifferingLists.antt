-- Lemmas on two lists that are the same except for the element at one position.
use Rattle.std.proofs.Common.{◌≡◌, ℕ, zero, suc, ◌+◌, List, [], ◌∷◌, ◌++◌, length, Some, refl, sym, ap, ◌∙◌, arith, append_assoc}
use Rattle.std.specs.Prelude.{slice_get, slice_set}
use Rattle.std.proofs.lemmas.List.{length-append}
use Rattle.std.proofs.lemmas.Option.{none-some}

-- a list has x at this position, and another is the same with y there
pub record Differ (X : Type 0) (n : ℕ) (old : List X) (x : X) (now : List X) (y : X) : Type 0 where
  pub before : List X
  pub after : List X
  pub many : length before ≡ n
  pub is : old ≡ before ++ x ∷ after
  pub becomes : now ≡ before ++ y ∷ after

module _ {X : Type 0} where
  -- more after both
  pub differ_left : (n : ℕ) (old now more : List X) (x y : X) → Differ X n old x now y → Differ X n (old ++ more) x (now ++ more) y
  differ_left n old now more x y h =
      record {
        before = h.before;
        after = h.after ++ more;
        many = h.many;
        is = ap (λ (xs : List X). xs ++ more) h.is ∙ append_assoc h.before (x ∷ h.after) more;
        becomes = ap (λ (xs : List X). xs ++ more) h.becomes ∙ append_assoc h.before (y ∷ h.after) more;
      }

  -- so many before both
  pub differ_right : (k n m : ℕ) (old now first : List X) (x y : X) → length first ≡ k → k + n ≡ m → Differ X n old x now y
      → Differ X m (first ++ old) x (first ++ now) y
  differ_right k n m old now first x y size sum h =
      record {
        before = first ++ h.before;
        after = h.after;
        many = omega (arith, length-append first h.before, size, sum, h.many);
        is = ap (λ (xs : List X). first ++ xs) h.is ∙ sym (append_assoc first h.before (x ∷ h.after));
        becomes = ap (λ (xs : List X). first ++ xs) h.becomes ∙ sym (append_assoc first h.before (y ∷ h.after));
      }

  pub differ_last : (n : ℕ) (first : List X) (x y : X) → length first ≡ n → Differ X n (first ++ x ∷ []) x (first ++ y ∷ []) y
  differ_last n first x y size = record { before = first; after = []; many = size; is = refl; becomes = refl }

  pub differ_as : (n : ℕ) (old now older newer : List X) (x y : X) → older ≡ old → newer ≡ now → Differ X n old x now y
      → Differ X n older x newer y
  differ_as n old now older newer x y before after h =
      record { before = h.before; after = h.after; many = h.many; is = before ∙ h.is; becomes = after ∙ h.becomes }

  get_seam : (first rest : List X) (x : X) → slice_get (first ++ x ∷ rest) (length first) ≡ Some x
  get_seam [] rest x = refl
  get_seam (z ∷ first) rest x = get_seam first rest x

  set_seam : (first rest : List X) (x y : X) → slice_set (first ++ x ∷ rest) (length first) y ≡ first ++ y ∷ rest
  set_seam [] rest x y = refl
  set_seam (z ∷ first) rest x y = ap (λ (xs : List X). z ∷ xs) (set_seam first rest x y)

  -- the items at the position
  pub differ_old : (n : ℕ) (old now : List X) (x y : X) → Differ X n old x now y → slice_get old n ≡ Some x
  differ_old n old now x y h =
      ap (λ (xs : List X). slice_get xs n) h.is
      ∙ (ap (slice_get (h.before ++ x ∷ h.after)) (sym h.many) ∙ get_seam h.before h.after x)

  pub differ_now : (n : ℕ) (old now : List X) (x y : X) → Differ X n old x now y → slice_get now n ≡ Some y
  differ_now n old now x y h =
      ap (λ (xs : List X). slice_get xs n) h.becomes
      ∙ (ap (slice_get (h.before ++ y ∷ h.after)) (sym h.many) ∙ get_seam h.before h.after y)

  -- the other is the one with y set there
  pub differ_set : (n : ℕ) (old now : List X) (x y : X) → Differ X n old x now y → now ≡ slice_set old n y
  differ_set n old now x y h =
      h.becomes
      ∙ (sym (set_seam h.before h.after x y)
      ∙ (λ i. slice_set (sym h.is i) (h.many i) y))

  -- an item of a list in a longer one
  pub get_left : (xs more : List X) (n : ℕ) (x : X) → slice_get xs n ≡ Some x → slice_get (xs ++ more) n ≡ Some x
  get_left [] more n x h = absurd (none-some x h)
  get_left (z ∷ xs) more zero x h = h
  get_left (z ∷ xs) more (suc n) x h = get_left xs more n x h

  pub get_right : (first xs : List X) (k n : ℕ) → length first ≡ k → slice_get (first ++ xs) (k + n) ≡ slice_get xs n
  get_right first xs k n size = ap (λ (m : ℕ). slice_get (first ++ xs) (m + n)) (sym size) ∙ past first
    where
      past : (zs : List X) → slice_get (zs ++ xs) (length zs + n) ≡ slice_get xs n
      past [] = let none : 0 + n ≡ n = omega arith in ap (slice_get xs) none
      past (z ∷ zs) =
          let next : length (z ∷ zs) + n ≡ suc (length zs + n) = omega arith in ap (slice_get (z ∷ zs ++ xs)) next ∙ past zs

  pub get_at : (first rest : List X) (n : ℕ) (x : X) → length first ≡ n → slice_get (first ++ x ∷ rest) n ≡ Some x
  get_at first rest n x size = ap (slice_get (first ++ x ∷ rest)) (sym size) ∙ get_seam first rest x
