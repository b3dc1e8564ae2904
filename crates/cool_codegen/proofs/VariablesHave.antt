-- A name in scope has the type of its variable, which is a type of the class table.
use Rattle.std.proofs.Common.{◌≡◌, ℕ, List, [], ◌∷◌, Some, Bool, true, false, refl}
use Rattle.std.specs.Prelude.{bytes_eq, if◌then◌else◌}
use Rattle.std.specs.List.{AllByRecursion}
use Rattle.std.specs.Option.{option_map}
use Rattle.cool_classes.specs.Chains.{Class}
use Rattle.cool_rules.specs.Conformance.{IsType}
use Rattle.cool_rules.specs.Scopes as scopes
use Rattle.cool_codegen.specs.declared.variables.Variable.{Variable}
use Rattle.cool_codegen.specs.CodeSettings.{HaveTypes}
use Rattle.cool_codegen.specs.Variables.{Named, scope_of}

pub found_in_scope : (vs : List Named) (name : List ℕ) → scopes.found (scope_of vs) name ≡ option_map (λ (v : Variable). v.ty) (scopes.found vs name)
found_in_scope [] name = refl
found_in_scope (v ∷ vs) name = by (bytes_eq v.name name) (found_in_scope vs name)
  where
    by : (b : Bool) → scopes.found (scope_of vs) name ≡ option_map (λ (w : Variable). w.ty) (scopes.found vs name)
        → (if b then Some v.value.ty else scopes.found (scope_of vs) name) ≡ option_map (λ (w : Variable). w.ty) (if b then Some v.value else scopes.found vs name)
    by true same = refl
    by false same = same

-- if variables have types of a table, their names in scope have them
pub types_in_scope : (p : List Class) (vs : List Named) → HaveTypes p vs → AllByRecursion (λ (b : scopes.Binding). IsType p b.value) (scope_of vs)
types_in_scope p [] h = tt
types_in_scope p (v ∷ vs) h = (h.0, types_in_scope p vs h.1)
