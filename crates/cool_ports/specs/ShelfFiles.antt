-- The files of a shelf (a file system), as a map from names to bytes: `Some` if contracts can see it, and `None` if they cannot. The definitions say that
-- files are held, missing or too long.
use Rattle.std.specs.Prelude.{◌≡◌, List, [], ◌∷◌, ◌++◌, ℕ, ◌<◌, length, Option, Some, None}
use Rattle.cool_ports.specs.Counts.{Rose}

abbrev pub FileMap : Type 0
FileMap = List ℕ → Option (List ℕ)

-- the file of this name has these bytes, if contracts can see the shelf's files
abbrev pub MayHold : Option FileMap → List ℕ → List ℕ → Type 0
MayHold None name bytes = Unit {0}
MayHold (Some files) name bytes = files name ≡ Some bytes

-- there is one list of bytes for each name, and it is that of the file, if contracts can see the shelf's files
abbrev pub AreHeld : Option FileMap → List (List ℕ) → List (List ℕ) → Type 0
AreHeld files [] [] = Unit {0}
AreHeld files [] (bytes ∷ contents) = ⊥
AreHeld files (name ∷ names) [] = ⊥
AreHeld files (name ∷ names) (bytes ∷ contents) = MayHold files name bytes × AreHeld files names contents

-- There is no file of this name: the map has none and no fault was counted, or the map is unknown and a fault was counted.
abbrev pub IsMissing : Option FileMap → List ℕ → ℕ → ℕ → Type 0
IsMissing None name before after = Rose before after
IsMissing (Some files) name before after = (files name ≡ None) × (after ≡ before)

-- The file is longer than a limit: the map says so and no fault was counted, or the map is unknown and a fault was counted.
abbrev pub IsLonger : Option FileMap → List ℕ → ℕ → ℕ → ℕ → Type 0
IsLonger None name most before after = Rose before after
IsLonger (Some files) name most before after =
    (bytes : List ℕ) × (files name ≡ Some bytes) × (most < length bytes) × (after ≡ before)

-- Memory ran out: no fault was counted, or the map is unknown and a fault was counted.
abbrev pub IsWanting : Option FileMap → ℕ → ℕ → Type 0
IsWanting None before after = Rose before after
IsWanting (Some files) before after = after ≡ before

-- A shelf that had been asked for `before` was then asked for some of the names, from the first on, each once, in order.
pub record AskedFront (names before after : List (List ℕ)) : Type 0 where
  pub front : List (List ℕ)
  pub rest : List (List ℕ)
  pub stands : names ≡ front ++ rest
  pub asked : after ≡ before ++ front
