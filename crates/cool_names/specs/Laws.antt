-- `IsSeenRightly` and `IsDeclaredRightly` say that the types that are recorded for occurrences of names are those of the typing rules (Typing.antt of
-- `cool_rules`).
use Rattle.std.specs.Prelude.{◌≡◌, ◌<◌, ◌⊎◌, List, length, Some, None}
use Rattle.std.specs.Option.{option_or}
use Rattle.std.specs.Prelude.{ℕ}
use Rattle.cool_syntax.specs.declared.file_tree.ClassDef.{ClassDef}
use Rattle.cool_syntax.specs.declared.place.Place.{Place}
use Rattle.cool_syntax.specs.Tree.{Tree}
use Rattle.cool_syntax.specs.Tree as trees
use Rattle.cool_classes.specs.declared.class_id.ClassId.{ClassId}
use Rattle.cool_classes.specs.declared.class_id.Ty.{Ty}
use Rattle.cool_classes.specs.Chains.{Class}
use Rattle.cool_rules.specs.Rules.{type_of_name}
use Rattle.cool_rules.specs.Scopes.{Binding, Bound, found}
use Rattle.cool_rules.specs.Typing.{HasType}
use Rattle.cool_names.specs.Scopes.{Variable}
use Rattle.cool_names.specs.Meanings.{name_meaning}
use Rattle.cool_names.specs.Marks.{Context, seen_type, type_declared}

-- the variables give each name the type that it has in a scope of the rules
abbrev pub AreAgreed : List Class → List (Bound Variable) → List (Bound Variable) → List Binding → Type 0
AreAgreed p locals attributes scope = (name : List ℕ) → type_declared p (option_or (found locals name) (found attributes name)) ≡ found scope name

abbrev pub within : List Class → List ClassDef → ClassId → List (Bound Variable) → Context
within p ds c attributes = record { table = p; definitions = ds; class = c; attributes = attributes }

-- if the rules give an expression a type, the one at first sight is the same, or none is seen
abbrev pub IsSeenRightly : List Class → Type 0
IsSeenRightly p = (ds : List ClassDef) (c : ClassId) (locals attributes : List (Bound Variable)) (scope : List Binding) (e : Tree) (t : Ty) → c.0 < length p → AreAgreed p locals attributes scope → HasType p c scope e t
    → (seen_type (within p ds c attributes) locals e ≡ None) ⊎ (seen_type (within p ds c attributes) locals e ≡ Some t)

-- if the rules give a variable a type, its mark declares a name of that type
abbrev pub IsDeclaredRightly : List Class → Type 0
IsDeclaredRightly p = (c : ClassId) (locals attributes : List (Bound Variable)) (scope : List Binding) (at : Place) (name : List ℕ) (t : Ty) → AreAgreed p locals attributes scope → HasType p c scope (trees.Id at name) t
    → type_of_name p (name_meaning locals attributes name).declared ≡ Some t
