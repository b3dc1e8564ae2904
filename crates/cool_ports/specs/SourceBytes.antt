-- The bytes that a source (an input stream) has left: `Some` bytes if contracts can see them, and `None` if they cannot. `Takes` relates the bytes before and
-- after one byte is taken.
use Rattle.std.specs.Prelude.{◌≡◌, ◌<◌, ◌≤◌, ◌^◌, List, ℕ, [], ◌∷◌, length, Option, Some, None, Result, Ok, Err}
use Rattle.std.specs.Io.KnownBytes.{Consumes}
use Rattle.std.specs.Io.KnownBytes as std_bytes
use Rattle.cool_ports.specs.declared.Failed.{Failed}

-- the bytes that were left before this byte was taken
unfoldable pub put_back : ℕ → Option (List ℕ) → Option (List ℕ)
put_back byte None = None
put_back byte (Some rest) = Some (byte ∷ rest)

-- nothing is left, if contracts can see the bytes
abbrev pub IsAtEnd : Option (List ℕ) → Type 0
IsAtEnd None = Unit {0}
IsAtEnd (Some left) = left ≡ []

-- if contracts can see the bytes that are left, their number is the number of bytes that the source can give
abbrev pub HasRoomFor : Option (List ℕ) → ℕ → Type 0
HasRoomFor None room = Unit {0}
HasRoomFor (Some left) room = room ≡ length left

-- The answer of `take`: the first byte left, or that none is left.
abbrev pub Takes : Option (List ℕ) → Option ℕ → Option (List ℕ) → Type 0
Takes before (Some byte) after = before ≡ put_back byte after
Takes before None after = IsAtEnd before × (after ≡ before)

-- The same for a reader of the standard library: it gave its first byte, or nothing is left of it.
abbrev pub Reads : Option (List ℕ) → Option ℕ → Option (List ℕ) → Type 0
Reads before (Some byte) after = Consumes before after (byte ∷ [])
Reads before None after = std_bytes.IsAtEnd before

-- A bound on the bytes that a source can give: it is below 2^64, and smaller after each byte.
abbrev pub Spends : ℕ → Result (Option ℕ) Failed → ℕ → Type 0
Spends before (Ok (Some byte)) after = (before < 2 ^ 64) × (after < before)
Spends before (Ok None) after = (before < 2 ^ 64) × (after ≤ before)
Spends before (Err failed) after = (before < 2 ^ 64) × (after ≤ before)
