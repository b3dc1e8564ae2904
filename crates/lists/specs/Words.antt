-- `words_in` lists the words of a line, which is divided at each space.
use Rattle.std.specs.Prelude.{ℕ, List, ◌==◌}
use Rattle.std.specs.List.{slice_split}

-- the words of a line, which is divided at each space
abbrev pub words_in : List ℕ → List (List ℕ)
words_in = slice_split (λ b. b == 32)
