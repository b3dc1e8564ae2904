-- The test `bytes_eq` is true exactly for two lists of bytes that are the same.
use Rattle.std.proofs.Common.{◌≡◌, ◌≢◌, ℕ, List, Bool, true, false, bytes_eq, true≢false, refl, sym, ◌∙◌}
use Rattle.std.specs.Global.{Vec}
use Rattle.std.proofs.lemmas.Slice.Eq.{bytes_eq-Decides}

-- it holds of bytes that are the same
pub bytes_same : (xs ys : List ℕ) → xs ≡ ys → bytes_eq xs ys ≡ true
bytes_same xs ys e = (bytes_eq-Decides xs ys).1 e

pub bytes_eq-same : (bs : List ℕ) → bytes_eq bs bs ≡ true
bytes_eq-same bs = bytes_same bs bs refl

-- and of no others
pub bytes_equal : (xs ys : List ℕ) → bytes_eq xs ys ≡ true → xs ≡ ys
bytes_equal xs ys e = (bytes_eq-Decides xs ys).0 e

pub bytes_differ : (xs ys : List ℕ) → xs ≢ ys → bytes_eq xs ys ≡ false
bytes_differ xs ys apart = by (bytes_eq xs ys) refl
  where
    by : (b : Bool) → bytes_eq xs ys ≡ b → bytes_eq xs ys ≡ false
    by true e = absurd (apart (bytes_equal xs ys e))
    by false e = e

-- in either order
pub bytes_eq-turned : (xs ys : List ℕ) → bytes_eq xs ys ≡ bytes_eq ys xs
bytes_eq-turned xs ys = by (bytes_eq xs ys) refl (bytes_eq ys xs) refl
  where
    by : (a : Bool) → bytes_eq xs ys ≡ a → (b : Bool) → bytes_eq ys xs ≡ b → a ≡ b
    by true e true k = refl
    by false e false k = refl
    by true e false k = absurd (true≢false (sym (bytes_same ys xs (sym (bytes_equal xs ys e))) ∙ k))
    by false e true k = absurd (true≢false (sym (bytes_same xs ys (sym (bytes_equal ys xs k))) ∙ e))

-- keys of a map that are bytes are the same where their bytes are
abbrev pub same_key : Vec ℕ → Vec ℕ → Bool
same_key x y = bytes_eq x.items y.items
