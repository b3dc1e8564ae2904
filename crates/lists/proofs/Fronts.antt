-- Lemmas on the longest prefix of a list whose bytes all pass a test: a byte that passes makes it longer, and a byte that does not ends it.
use Rattle.std.proofs.Common.{◌≡◌, ℕ, suc, List, ◌∷◌, Bool, true, false, refl, arith}
use Rattle.std.specs.List.{prefix_len}

-- a byte that passes makes it longer
pub prefix_yes : (p : ℕ → Bool) (b : ℕ) (bs : List ℕ) → p b ≡ true → prefix_len p (b ∷ bs) ≡ suc (prefix_len p bs)
prefix_yes p b bs h = rw h (omega arith)

-- a byte that does not pass ends it
pub prefix_no : (p : ℕ → Bool) (b : ℕ) (bs : List ℕ) → p b ≡ false → prefix_len p (b ∷ bs) ≡ 0
prefix_no p b bs h = rw h refl
