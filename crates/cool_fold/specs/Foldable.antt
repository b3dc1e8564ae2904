-- `IsDone` says that nothing is left to fold in an expression: folding would replace none of its nodes.
use Rattle.std.specs.Prelude.{◌≡◌, ℤ, neg_ℤ, Bool as Truth, true, false, List, Option, Some, None}
use Rattle.cool_syntax.specs.declared.operator.ArithOp.{ArithOp}
use Rattle.cool_syntax.specs.declared.operator.CompareOp.{CompareOp}
use Rattle.cool_syntax.specs.declared.operator.CompareOp.TheVariants.{Less, LessEqual, Equal}
use Rattle.cool_syntax.specs.Tree.{Tree, Trees, MaybeTree, Cases, Last, More, Without, With, NoCase, CaseOf}
use Rattle.cool_syntax.specs.Tree as trees
use Rattle.cool_classes.specs.declared.class_id.ClassId.{ClassId}
use Rattle.cool_classes.specs.declared.class_id.Ty.{Ty}
use Rattle.cool_classes.specs.Chains.{Class}
use Rattle.cool_rules.specs.Conformance.{class_of}
use Rattle.cool_rules.specs.Rules.{same_type, type_meant}
use Rattle.cool_rules.specs.Scopes.{Binding}
use Rattle.cool_rules.specs.Typing.{with_name}
use Rattle.cool_meaning.specs.Values.{Value}
use Rattle.cool_rules.specs.StaticTypes.{type_of}
use Rattle.cool_fold.specs.Folding.{constant_in, number_in, truth_in, one_sort, exactly, result, is_redefined}

-- a computation of numbers that has no value, or not on two constants
abbrev pub IsNoResult : ArithOp → Option ℤ → Option ℤ → Type 0
IsNoResult op None n = Unit {0}
IsNoResult op (Some m) None = Unit {0}
IsNoResult op (Some m) (Some n) = result op m n ≡ None

abbrev pub IsNoNegation : Option ℤ → Type 0
IsNoNegation None = Unit {0}
IsNoNegation (Some n) = exactly (neg_ℤ n) ≡ None

-- at least one of the two is not a number
abbrev pub AreNotNumbers : Option ℤ → Option ℤ → Type 0
AreNotNumbers None n = Unit {0}
AreNotNumbers (Some m) None = Unit {0}
AreNotNumbers (Some m) (Some n) = ⊥

-- the two are not constants of one sort
abbrev pub AreNotOfOneSort : Option Value → Option Value → Type 0
AreNotOfOneSort None w = Unit {0}
AreNotOfOneSort (Some v) None = Unit {0}
AreNotOfOneSort (Some v) (Some w) = one_sort v w ≡ false

abbrev pub IsNoComparison : CompareOp → Tree → Tree → Type 0
IsNoComparison Less a b = AreNotNumbers (number_in (constant_in a)) (number_in (constant_in b))
IsNoComparison LessEqual a b = AreNotNumbers (number_in (constant_in a)) (number_in (constant_in b))
IsNoComparison Equal a b = AreNotOfOneSort (constant_in a) (constant_in b)

-- the test is no constant, or the part that it takes does not have the type of the whole
abbrev pub IsNotTaken : Ty → Ty → Ty → Option Truth → Type 0
IsNotTaken y n whole None = Unit {0}
IsNotTaken y n whole (Some true) = same_type y whole ≡ false
IsNotTaken y n whole (Some false) = same_type n whole ≡ false

abbrev mutual
  pub IsDone : List Class → ClassId → List Binding → Tree → Type 0
  IsDone p c scope (trees.leaf at form) = Unit {0}
  IsDone p c scope (trees.Assign at name e) = IsDone p c scope e
  IsDone p c scope (trees.Dispatch at e name es) =
      (is_redefined p (class_of c (type_of p c scope e)) name ≡ true) × IsDone p c scope e × AreDone p c scope es
  IsDone p c scope (trees.StaticDispatch at e class name es) = IsDone p c scope e × AreDone p c scope es
  IsDone p c scope (trees.If at e y n) =
      IsNotTaken (type_of p c scope y) (type_of p c scope n) (type_of p c scope (trees.If at e y n)) (truth_in (constant_in e))
      × IsDone p c scope e × IsDone p c scope y × IsDone p c scope n
  IsDone p c scope (trees.While at e b) = IsDone p c scope e × IsDone p c scope b
  IsDone p c scope (trees.Block at es) = AreDone p c scope es
  IsDone p c scope (trees.Let at name declared o e) = IsMaybeDone p c scope o × IsDone p c (with_name name (type_meant p declared.name) scope) e
  IsDone p c scope (trees.Case at e cs) = IsDone p c scope e × AreCasesDone p c scope cs
  IsDone p c scope (trees.IsVoid at e) = (constant_in e ≡ None) × IsDone p c scope e
  IsDone p c scope (trees.Not at e) = (truth_in (constant_in e) ≡ None) × IsDone p c scope e
  IsDone p c scope (trees.Neg at e) = IsNoNegation (number_in (constant_in e)) × IsDone p c scope e
  IsDone p c scope (trees.Arith at op a b) =
      IsNoResult op (number_in (constant_in a)) (number_in (constant_in b)) × IsDone p c scope a × IsDone p c scope b
  IsDone p c scope (trees.Compare at op a b) = IsNoComparison op a b × IsDone p c scope a × IsDone p c scope b

  pub AreDone : List Class → ClassId → List Binding → Trees → Type 0
  AreDone p c scope Last = Unit {0}
  AreDone p c scope (More e es) = IsDone p c scope e × AreDone p c scope es

  pub IsMaybeDone : List Class → ClassId → List Binding → MaybeTree → Type 0
  IsMaybeDone p c scope Without = Unit {0}
  IsMaybeDone p c scope (With e) = IsDone p c scope e

  pub AreCasesDone : List Class → ClassId → List Binding → Cases → Type 0
  AreCasesDone p c scope NoCase = Unit {0}
  AreCasesDone p c scope (CaseOf at name declared e cs) = IsDone p c (with_name name (type_meant p declared.name) scope) e × AreCasesDone p c scope cs
