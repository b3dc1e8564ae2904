-- `IsDifference` says how the tokens of files, without their source locations, differ after an edit: not at all, in one feature, or perhaps in more.
use Rattle.std.specs.Prelude.{◌≡◌, ◌≢◌, ℕ, List, map, length, take, drop, slice_get, Some}
use Rattle.cool_lexer.specs.declared.lexer.Lexed.{Lexed}
use Rattle.cool_session.specs.declared.difference.Difference.{Difference}
use Rattle.cool_session.specs.declared.difference.Difference.TheVariants as difference
use Rattle.cool_session.specs.declared.runs.Run.{Run}
use Rattle.cool_session.specs.Bases.{tokens_of}
use Rattle.cool_session.specs.FeatureTokens.{kinds}
use Rattle.cool_session.specs.Runs.{bounds_of, file_tokens, IsWithin, run_tokens}

-- files have the same tokens, places aside
abbrev pub SameTokens : List Lexed → List Lexed → Type 0
SameTokens before now = map kinds (tokens_of now) ≡ map kinds (tokens_of before)

-- The tokens of a file are those before, places aside, except for one run, which ended at a position and ends at another.
pub record DifferInRun (before now : List Lexed) (old new : Run) : Type 0 where
  pub file : new.file ≡ old.file
  pub start : new.start ≡ old.start
  pub front : kinds (take new.start (file_tokens now new.file)) ≡ kinds (take old.start (file_tokens before old.file))
  pub back : kinds (drop new.end (file_tokens now new.file)) ≡ kinds (drop old.end (file_tokens before old.file))
  pub other : kinds (run_tokens now new) ≢ kinds (run_tokens before old)

-- Files differ only in the feature of this number, whose tokens are this run now.
pub record DifferInFeature (before now : List Lexed) (number : ℕ) (run : Run) : Type 0 where
  pub old : Run
  pub there : slice_get (bounds_of 0 before) number ≡ Some old
  pub within : IsWithin now run
  pub differ : DifferInRun before now old run
  pub many : length now ≡ length before
  pub others : (k : ℕ) → k ≢ run.file → kinds (file_tokens now k) ≡ kinds (file_tokens before k)

abbrev pub IsDifference : List Lexed → List Lexed → Difference → Type 0
IsDifference before now difference.Nothing = SameTokens before now
IsDifference before now (difference.Feature number run) = DifferInFeature before now number run
IsDifference before now difference.More = Unit {0}
