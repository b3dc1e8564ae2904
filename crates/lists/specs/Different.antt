-- `AreDifferent` says that no name occurs twice in a list of names.
use Rattle.std.specs.Prelude.{◌≢◌, ℕ, List, [], ◌∷◌}
use Rattle.std.specs.List.{AllByRecursion}

-- no name stands twice
abbrev pub AreDifferent : List (List ℕ) → Type 0
AreDifferent [] = Unit {0}
AreDifferent (name ∷ names) = AllByRecursion (λ other. other ≢ name) names × AreDifferent names
