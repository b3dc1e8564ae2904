-- If each name in a typing scope has a variable of its type in the code generator's scope, the two scopes agree (`Covers`).
use Rattle.std.proofs.Common.{◌≡◌, ℕ, List, Some, ap, ◌∙◌}
use Rattle.std.specs.Option.{option_map}
use Rattle.cool_classes.specs.declared.class_id.Ty.{Ty}
use Rattle.cool_rules.specs.Scopes as scopes
use Rattle.cool_rules.specs.Scopes.{Binding, found}
use Rattle.cool_rules.proofs.StaticTypesAreGiven.{Covers}
use Rattle.cool_codegen.specs.declared.variables.Variable.{Variable}
use Rattle.cool_codegen.specs.Variables.{Named, scope_of}
use Rattle.cool_codegen.proofs.VariablesHave.{found_in_scope}

pub covers : (scope : List Binding) (vs : List Named)
    → ((name : List ℕ) (t : Ty) → scopes.found scope name ≡ Some t → (v : Variable) × (found vs name ≡ Some v) × (v.ty ≡ t)) → Covers scope (scope_of vs)
covers scope vs typed = λ name t is.
    let (v, there, same) = typed name t is in
    found_in_scope vs name ∙ ap (option_map (λ (w : Variable). w.ty)) there ∙ ap (λ (u : Ty). Some u) same
