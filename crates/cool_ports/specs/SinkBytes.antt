-- The bytes that a sink (an output stream) holds: `Some` bytes if contracts can see them, and `None` if they cannot. `GotPrefix` says that a sink got a
-- prefix of some bytes.
use Rattle.std.specs.Prelude.{◌≡◌, List, ℕ, ◌++◌, Option, Some, None}

-- the bytes that a sink holds after it also got these
unfoldable pub appended : Option (List ℕ) → List ℕ → Option (List ℕ)
appended None bytes = None
appended (Some held) bytes = Some (held ++ bytes)

-- A sink that held `before` got the bytes in front of `rest`, and holds `after`.
pub record GotUpTo (before : Option (List ℕ)) (bytes rest : List ℕ) (after : Option (List ℕ)) : Type 0 where
  pub front : List ℕ
  pub cut : bytes ≡ front ++ rest
  pub got : after ≡ appended before front

-- A sink that held `before` got a prefix of the bytes, and holds `after`.
abbrev pub GotPrefix : Option (List ℕ) → List ℕ → Option (List ℕ) → Type 0
GotPrefix before bytes after = (rest : List ℕ) × GotUpTo before bytes rest after
