-- The code's look-up of a name in a scope finds the declaration of the variable that the specification's look-up finds.
use Rattle.std.proofs.Common.{◌≡◌, ℕ, List, [], ◌∷◌, Bool, true, false, Some, refl}
use Rattle.std.specs.Prelude.{bytes_eq, if◌then◌else◌, option_map}
use Rattle.cool_rules.specs.Scopes.{Bound, found}
use Rattle.cool_names.specs.declared.declaration.Declaration.{Declaration}
use Rattle.cool_names.specs.Scopes.{variable_of, variables}

-- the value found for a name is its variable
pub found_variable : (scope : List (Bound Declaration)) (name : List ℕ) → option_map variable_of (found scope name) ≡ found (variables scope) name
found_variable [] name = refl
found_variable (b ∷ scope) name = by (bytes_eq b.name name) (found_variable scope name)
  where
    by : (same : Bool) → option_map variable_of (found scope name) ≡ found (variables scope) name
        → option_map variable_of (if same then Some b.value else found scope name) ≡ (if same then Some (variable_of b.value) else found (variables scope) name)
    by true is = refl
    by false is = is
