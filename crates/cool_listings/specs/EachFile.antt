-- `IsOfEach` says that a text is made of one piece for each file, in the order of the files.
use Rattle.std.specs.Prelude.{◌≡◌, ℕ, ◌+◌, List, [], ◌∷◌, ◌++◌}

-- the text is a piece of each of the files, of which the first has this number
abbrev pub IsOfEach : (ℕ → List ℕ → List ℕ → Type 0) → ℕ → List (List ℕ) → List ℕ → Type 0
IsOfEach IsOf file [] text = text ≡ []
IsOfEach IsOf file (bytes ∷ files) text = (piece : List ℕ) × (rest : List ℕ) × IsOf file bytes piece × IsOfEach IsOf (file + 1) files rest × (text ≡ piece ++ rest)
