-- The variables in scope, as a list of bindings from names to variables with the latest first (the Cool manual, sections 5, 6, 7.8, 7.9 and 12).
use Rattle.std.specs.Prelude.{◌≡◌, refl, ℕ, List, [], ◌∷◌, map, Some, codes}
use Rattle.cool_syntax.specs.declared.place.Place.{Place}
use Rattle.cool_rules.specs.Scopes.{Bound, found}
use Rattle.cool_names.specs.declared.declaration.Declaration.{Declaration}

-- a variable: the name of its type, and where it is declared
pub record Variable : Type 0 where
  pub declared : List ℕ
  pub at : Place

-- the variable in the code's view of it, and the variables in scope
abbrev pub variable_of : Declaration → Variable
variable_of d = record { declared = d.declared.now; at = d.at }

abbrev pub variables : List (Bound Declaration) → List (Bound Variable)
variables scope = map (λ b. record { name = b.name; value = variable_of b.value }) scope

-- Worked example: a name that is bound twice means its later variable.
shadowed : (p q : Place) → found {T = Variable} (record { name = codes "x"; value = record { declared = codes "Int"; at = p } } ∷ record { name = codes "x"; value = record { declared = codes "Bool"; at = q } } ∷ []) (codes "x")
    ≡ Some (record { declared = codes "Int"; at = p })
shadowed p q = refl
