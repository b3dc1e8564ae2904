-- `and_zeros` and `zeros_and` give all bytes of a segment of which only a part was ever written: the other bytes are zeros.
use Rattle.std.specs.Prelude.{◌≡◌, refl, ℕ, ◌+◌, ◌-◌, ◌*◌, ◌%◌, ◌≤◌, List, [], ◌∷◌, ◌++◌, length, replicate, get_or}

-- a segment of so many bytes: the written ones, and zeros after them
abbrev pub and_zeros : List ℕ → ℕ → List ℕ
and_zeros written size = written ++ replicate (size - length written) 0

-- a segment of so many bytes: zeros, and the written ones after them
abbrev pub zeros_and : ℕ → List ℕ → List ℕ
zeros_and size written = replicate (size - length written) 0 ++ written

-- The part that was written has so many bytes, for which there is room; both sizes are multiples of a word.
pub record IsPart (written : List ℕ) (capacity size : ℕ) : Type 0 where
  pub inside : length written ≤ size
  pub room : size ≤ capacity
  pub words : length written % 4 ≡ 0
  pub size_words : size % 4 ≡ 0

-- the number in two bytes of a list, and in four
abbrev pub two_at : List ℕ → ℕ → ℕ
two_at l i = get_or l i 0 + 256 * get_or l (i + 1) 0

abbrev pub four_at : List ℕ → ℕ → ℕ
four_at l i = get_or l i 0 + 256 * get_or l (i + 1) 0 + 65536 * get_or l (i + 2) 0 + 16777216 * get_or l (i + 3) 0

-- Worked examples.
zeros_after : and_zeros (7 ∷ 8 ∷ []) 4 ≡ 7 ∷ 8 ∷ 0 ∷ 0 ∷ []
zeros_after = refl

zeros_before : zeros_and 4 (7 ∷ 8 ∷ []) ≡ 0 ∷ 0 ∷ 7 ∷ 8 ∷ []
zeros_before = refl
