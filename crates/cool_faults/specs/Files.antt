-- `bytes_of` gives source files as lists of bytes, and `total` is the number of bytes of all files.
use Rattle.std.specs.Prelude.{ℕ, ◌+◌, List, [], ◌∷◌, map, length}
use Rattle.std.specs.Global.{Vec}

abbrev pub bytes_of : List (Vec ℕ) → List (List ℕ)
bytes_of = map (λ file. file.items)

abbrev pub total : List (List ℕ) → ℕ
total [] = 0
total (file ∷ files) = length file + total files
