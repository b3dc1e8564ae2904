-- `AreShortNames` bounds the names of files that a program is built with, so that they fit into its data.
use Rattle.std.specs.Prelude.{ℕ, ◌≤◌, List, length}
use Rattle.std.specs.List.{AllByRecursion}
use Rattle.cool_emit.specs.declared.TheConstants.{MOST_FILE_NAME}

-- names of at most 4,096 bytes each
abbrev pub AreShortNames : List (List ℕ) → Type 0
AreShortNames names = AllByRecursion (λ (name : List ℕ). length name ≤ MOST_FILE_NAME) names
