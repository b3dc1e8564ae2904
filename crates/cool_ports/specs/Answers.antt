-- `Past` is the history of a source (an input stream): the bytes that it gave so far, and how often it answered that nothing is left.
use Rattle.std.specs.Prelude.{◌≡◌, ℕ, ◌+◌, ◌<◌, List, [], ◌∷◌, ◌++◌, Option, Some, None}

pub record Past : Type 0 where
  pub given : List ℕ
  pub ends : ℕ

-- the history of a source that was not asked yet
abbrev pub nothing_yet : Past
nothing_yet = record { given = []; ends = 0 }

-- the history after one more answer
abbrev pub after_answer : Past → Option ℕ → Past
after_answer past (Some byte) = record { given = past.given ++ byte ∷ []; ends = past.ends }
after_answer past None = record { given = past.given; ends = past.ends + 1 }

-- Between two points a source gave bytes, and perhaps answered that nothing is left. An input that it may have had at the first
-- point, and what is left of it at the second: the input begins with the bytes that were given, and where the end was answered
-- nothing is left of it.
pub record Leaves (before after : Past) (input rest : List ℕ) : Type 0 where
  pub cut : before.given ++ input ≡ after.given ++ rest
  pub all : before.ends < after.ends → rest ≡ []
