-- A count of failures, which each shelf (file system), source (input) and sink (output) keeps: it never falls, and stays at its greatest value, `last_count`.
use Rattle.std.specs.Prelude.{ℕ, ◌<◌, ◌≤◌}

-- the last value of a count
abbrev pub last_count : ℕ
last_count = 18446744073709551615

-- The count goes on: it does not fall, and does not pass its last value.
pub record GoesOn (before after : ℕ) : Type 0 where
  pub no_less : before ≤ after
  pub bounded : after ≤ last_count

-- The count rose. At its last value it cannot be seen to rise, and is taken as one that rose.
pub record Rose (before after : ℕ) : Type 0 where
  pub no_less : before ≤ after
  pub more : before < last_count → before < after
