-- `called` counts the calls of a type checker (`Typer`): the number rises by one at each call, and stays at its greatest value once it has reached it.
use Rattle.std.specs.Prelude.{ℕ, ◌+◌, min}

-- the last value of the number
abbrev pub last_call : ℕ
last_call = 18446744073709551615

-- the number after so many calls more
abbrev pub called : ℕ → ℕ → ℕ
called more before = min (before + more) last_call
