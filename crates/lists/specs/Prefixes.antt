-- `IsPrefix` and `IsSuffix` say that a list of bytes begins, or ends, with another one.
use Rattle.std.specs.Prelude.{◌≡◌, ℕ, List, ◌++◌}

-- the whole begins with these
abbrev pub IsPrefix : List ℕ → List ℕ → Type 0
IsPrefix front whole = (more : List ℕ) × (whole ≡ front ++ more)

-- the whole ends with these
abbrev pub IsSuffix : List ℕ → List ℕ → Type 0
IsSuffix back whole = (taken : List ℕ) × (whole ≡ taken ++ back)
