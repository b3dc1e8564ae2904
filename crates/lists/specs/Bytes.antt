-- `AreBytes` says that a list of numbers is a list of bytes: each number is below 256.
use Rattle.std.specs.Prelude.{ℕ, List, ◌<◌}
use Rattle.std.specs.List.{AllByRecursion}

-- each number of a list is a byte
abbrev pub AreBytes : List ℕ → Type 0
AreBytes bytes = AllByRecursion (λ b. b < 256) bytes
