-- `IsAnswer` says that the code's result of checking an expression is the specified one: a value, the first fault (type error), or out of memory. `nodes_typed`
-- gives the types of the nodes of an expression.
use Rattle.std.specs.Prelude.{◌≡◌, ℕ, ◌<◌, List, ◌++◌, length, Result, Ok, IfOk, IfErr}
use Rattle.std.specs.List.{AllByRecursion}
use Rattle.cool_syntax.specs.declared.file_tree.Feature.{Feature}
use Rattle.cool_syntax.specs.declared.node.NodeId.{NodeId}
use Rattle.cool_syntax.specs.Tree.{Tree, Trees, MaybeTree, Cases, tree_size}
use Rattle.cool_syntax.specs.TreesWithinLimits.{IsFeatureWithin, IsTreeWithin}
use Rattle.cool_classes.specs.declared.class_id.ClassId.{ClassId}
use Rattle.cool_classes.specs.declared.class_id.Ty.{Ty}
use Rattle.cool_classes.specs.Chains.{Class}
use Rattle.cool_rules.specs.Conformance.{IsType}
use Rattle.cool_rules.specs.NodeTypes.{node_types, part_types, types_of_all, types_of_maybe, types_of_cases, feature_types}
use Rattle.cool_rules.specs.Scopes.{AreTypes, Binding}
use Rattle.cool_check.specs.declared.fault.CheckError.{CheckError}
use Rattle.cool_check.specs.declared.typing_setting.TypingSetting.{TypingSetting}
use Rattle.cool_check.specs.Contexts.{context}
use Rattle.cool_check.specs.Faults.{IsPlacedError}
use Rattle.cool_check.specs.FirstFaults.{Checked, checked, IsFirst}
use Rattle.cool_check.specs.TypingSettings.{IsSound}
use Rattle.cool_check.specs.TypingFaults.{feature_checked}

-- the types of the nodes of an expression, or of its parts, with these variables in scope before the attributes
abbrev pub nodes_typed : TypingSetting → List Binding → Tree → List Ty
nodes_typed s locals t = node_types s.table.now s.class (locals ++ s.attributes.now) t

abbrev pub parts_typed : TypingSetting → List Binding → Tree → List Ty
parts_typed s locals t = part_types s.table.now s.class (locals ++ s.attributes.now) t

-- the types of the nodes of several expressions, of one that may be missing, and of the branches of a case
abbrev pub all_typed : TypingSetting → List Binding → Trees → List Ty
all_typed s locals ts = types_of_all s.table.now s.class (locals ++ s.attributes.now) ts

abbrev pub maybe_typed : TypingSetting → List Binding → MaybeTree → List Ty
maybe_typed s locals o = types_of_maybe s.table.now s.class (locals ++ s.attributes.now) o

abbrev pub cases_typed : TypingSetting → List Binding → Cases → List Ty
cases_typed s locals cs = types_of_cases s.table.now s.class (locals ++ s.attributes.now) cs

-- expressions before this number of the body can be checked with these variables in scope
pub record IsReady (s : TypingSetting) (scope : List Binding) (number : ℕ) : Type 0 where
  pub sound : IsSound s
  pub locals : AreTypes s.table.now scope
  pub below : number < tree_size s.body.now

-- arguments are expressions of the body, and each has a type
pub record AreArguments (s : TypingSetting) (ids : List NodeId) (types : List Ty) : Type 0 where
  pub args : AllByRecursion (λ arg. arg.0 < tree_size s.body.now) ids
  pub given : AllByRecursion (IsType s.table.now) types
  pub each : length types ≡ length ids

-- The result of a check for which the definition gives `given`: that value, which satisfies `IsGood`, or the first fault, with its place in one of the files,
-- or out of memory.
pub record IsAnswer {X : Type 0} (given : Checked X) (IsGood : X → Type 0) (IsWithin : ℕ → Type 0) (result : Result X CheckError) : Type 0 where
  pub good : IfOk result IsGood
  pub typed : IfOk result (λ x. given ≡ Ok x)
  pub first : IfErr result (IsFirst given)
  pub places : (n : ℕ) → IsWithin n → IfErr result (IsPlacedError n)

-- the answer for an expression with these variables in scope
abbrev pub IsTypeOf : TypingSetting → List Binding → Tree → Result Ty CheckError → Type 0
IsTypeOf s locals t = IsAnswer (checked (context s) locals t) (IsType s.table.now) (λ n. IsTreeWithin n t)

-- the answer for a feature of a class: the types of the nodes of its expression, or the first fault
pub record IsFeatureAnswer (p : List Class) (c : ClassId) (x : Feature) (result : Result (List Ty) CheckError) : Type 0 where
  pub typed : IfOk result (λ types. feature_checked p c x ≡ Ok tt)
  pub column : IfOk result (λ types. types ≡ feature_types p c x)
  pub first : IfErr result (IsFirst (feature_checked p c x))
  pub places : (n : ℕ) → IsFeatureWithin n x → IfErr result (IsPlacedError n)
