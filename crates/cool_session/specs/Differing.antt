-- `IsFirstOther` gives the first file whose tokens differ from those before an edit, and `IsAround` the feature, as a sequence of tokens, that contains all
-- differences in the file.
use Rattle.std.specs.Prelude.{◌≡◌, ◌≢◌, ℕ, ◌+◌, ◌<◌, ◌≤◌, List, length, slice_get, Some}
use Rattle.cool_lexer.specs.declared.lexer.Lexed.{Lexed}
use Rattle.cool_session.specs.declared.runs.Run.{Run}
use Rattle.cool_session.specs.FeatureTokens.{kinds}
use Rattle.cool_session.specs.Runs.{file_tokens}

-- the tokens of a file are those before, places aside
abbrev pub IsSameFile : List Lexed → List Lexed → ℕ → Type 0
IsSameFile before now k = kinds (file_tokens now k) ≡ kinds (file_tokens before k)

-- The first file from a number on whose tokens are not those before is the one of this number.
pub record IsFirstOther (before now : List Lexed) (from k : ℕ) : Type 0 where
  pub after : from ≤ k
  pub within : k < length before
  pub other : kinds (file_tokens now k) ≢ kinds (file_tokens before k)
  pub same : (j : ℕ) → from ≤ j → j < k → IsSameFile before now j

-- each file from a number on has the tokens that it had before
abbrev pub AreSameFrom : List Lexed → List Lexed → ℕ → Type 0
AreSameFrom before now from = (j : ℕ) → from ≤ j → IsSameFile before now j

-- The run of this number is of a file, and what differs in the file stands within it: so many tokens are the same in front, and so many at
-- the end, of those that there were and that there are, and those outside the run do not overlap.
pub record IsAround (runs : List Run) (file front back before now number : ℕ) : Type 0 where
  pub run : Run
  pub there : slice_get runs number ≡ Some run
  pub of_file : run.file ≡ file
  pub starts : run.start ≤ front
  pub ends : before ≤ run.end + back
  pub apart : run.start + before ≤ now + run.end
