-- Theorems about type checking: its result agrees with the declarative typing rules, and these give an expression at most one type.
use Rattle.std.specs.Prelude.{◌≡◌, ◌<◌, ◌↔◌, ℕ, List, [], length, slice_get, Some, Ok, Err}
use Rattle.std.specs.List.{AllByRecursion}
use Rattle.cool_syntax.specs.declared.file_tree.Feature.{Feature}
use Rattle.cool_syntax.specs.Tree.{Tree}
use Rattle.cool_classes.specs.declared.class_id.ClassId.{ClassId}
use Rattle.cool_classes.specs.declared.class_id.Ty.{Ty}
use Rattle.cool_classes.specs.Chains.{Class, features_of}
use Rattle.cool_rules.specs.Conformance.{IsType}
use Rattle.cool_rules.specs.Scopes.{Binding}
use Rattle.cool_rules.specs.TypedTables.{IsTypedTable}
use Rattle.cool_rules.specs.Typing.{HasType, IsTypedFeature}
use Rattle.cool_check.specs.declared.fault.TypeFault.{TypeFault}
use Rattle.cool_check.specs.FailingRules.{FeatureFails}
use Rattle.cool_check.specs.TypingFaults.{feature_checked, typing_faults}

-- the table is typed by the rules exactly where it has no typing fault
abbrev pub IsFaultlessWhereTyped : List Class → Type 0
IsFaultlessWhereTyped p = IsTypedTable p ↔ (typing_faults p ≡ [])

-- a feature of a class is checked without a fault exactly where the rules type it
abbrev pub IsCheckedWhereTyped : List Class → Type 0
IsCheckedWhereTyped p = (c : ClassId) (k : ℕ) (x : Feature) → c.0 < length p → slice_get (features_of p c) k ≡ Some x → (feature_checked p c x ≡ Ok tt) ↔ IsTypedFeature p c x

-- the fault of a feature names the rule that fails first, and the premise by which it fails
abbrev pub NameFailingRules : List Class → Type 0
NameFailingRules p = (c : ClassId) (k : ℕ) (x : Feature) (fault : TypeFault) → c.0 < length p → slice_get (features_of p c) k ≡ Some x
    → feature_checked p c x ≡ Err fault → FeatureFails p c fault x

-- in a class, and a scope whose names have types of the table, an expression has one type at most
abbrev pub HasOneType : List Class → Type 0
HasOneType p = (c : ClassId) (scope : List Binding) (e : Tree) (t u : Ty) → c.0 < length p → AllByRecursion (λ b. IsType p b.value) scope → HasType p c scope e t → HasType p c scope e u → t ≡ u
