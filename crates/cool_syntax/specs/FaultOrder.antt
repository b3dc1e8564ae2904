-- `IsNoLater` is the order of compile-time errors in a list: by file, then by byte, then by the rank of the error's kind, and last by line. The line never
-- decides between two locations of one text, because it follows from the byte. Two errors are equal in file, byte, rank and line if each is no later than the
-- other.
use Rattle.std.specs.Prelude.{◌≡◌, ◌⊎◌, ℕ, ◌<◌, ◌≤◌, List, [], ◌∷◌}
use Rattle.cool_syntax.specs.declared.place.Place.{Place}

-- the place of a fault, and the rank of its kind
pub record Standing : Type 0 where
  pub at : Place
  pub rank : ℕ

-- the first number is less, or they are equal and the rest decides
abbrev pub IsLessOr : ℕ → ℕ → Type 0 → Type 0
IsLessOr m n Follows = (m < n) ⊎ ((m ≡ n) × Follows)

-- the first is before the second in this order, or equal to it
abbrev pub IsNoLater : Standing → Standing → Type 0
IsNoLater a b = IsLessOr a.at.file b.at.file (IsLessOr a.at.byte b.at.byte (IsLessOr a.rank b.rank (a.at.line ≤ b.at.line)))

abbrev pub AreInOrder : {X : Type 0} → (X → Standing) → List X → Type 0
AreInOrder standing [] = Unit {0}
AreInOrder standing (x ∷ []) = Unit {0}
AreInOrder standing (x ∷ y ∷ ys) = IsNoLater (standing x) (standing y) × AreInOrder standing (y ∷ ys)
