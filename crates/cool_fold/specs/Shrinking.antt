-- `shrunk` defines folding as the code does it: a conditional is replaced by the branch that its test takes if the types before folding allow it. If an
-- expression has no type errors, `shrunk` is `fold`, because a folded part keeps its type.
use Rattle.std.specs.Prelude.{ℤ, neg_ℤ, int_lt, int_le, Bool as Truth, true, false, not, if◌then◌else◌, List, Option, Some, None, unwrap_or}
use Rattle.std.specs.Option.{option_map}
use Rattle.cool_syntax.specs.declared.place.Place.{Place}
use Rattle.cool_syntax.specs.declared.operator.ArithOp.{ArithOp}
use Rattle.cool_syntax.specs.declared.operator.CompareOp.{CompareOp}
use Rattle.cool_syntax.specs.declared.operator.CompareOp.TheVariants.{Less, LessEqual, Equal}
use Rattle.cool_syntax.specs.Tree.{Tree, Trees, MaybeTree, Cases, Last, More, Without, With, NoCase, CaseOf}
use Rattle.cool_syntax.specs.Tree as trees
use Rattle.cool_classes.specs.declared.class_id.ClassId.{ClassId}
use Rattle.cool_classes.specs.declared.class_id.Ty.{Ty}
use Rattle.cool_classes.specs.Chains.{Class}
use Rattle.cool_rules.specs.Conformance.{class_of}
use Rattle.cool_rules.specs.Rules.{same_type, type_meant, join_in}
use Rattle.cool_rules.specs.Scopes.{Binding}
use Rattle.cool_rules.specs.Typing.{with_name}
use Rattle.cool_meaning.specs.Values.{Value}
use Rattle.cool_meaning.specs.Evaluation.{same, is_void}
use Rattle.cool_rules.specs.StaticTypes.{type_of}
use Rattle.cool_fold.specs.Folding.{constant_in, number_in, truth_in, one_sort, exactly, result, number_or, dispatch_by}

-- The results of operators on constants

abbrev pub computed : ArithOp → Option ℤ → Option ℤ → Option ℤ
computed op None n = None
computed op (Some m) None = None
computed op (Some m) (Some n) = result op m n

abbrev pub negated : Option ℤ → Option ℤ
negated None = None
negated (Some n) = exactly (neg_ℤ n)

abbrev pub ordered : (ℤ → ℤ → Truth) → Option ℤ → Option ℤ → Option Truth
ordered f None n = None
ordered f (Some m) None = None
ordered f (Some m) (Some n) = Some (f m n)

abbrev pub equated : Option Value → Option Value → Option Truth
equated None w = None
equated (Some v) None = None
equated (Some v) (Some w) = if one_sort v w then Some (same v w) else None

abbrev pub compared : CompareOp → Option Value → Option Value → Option Truth
compared Less v w = ordered int_lt (number_in v) (number_in w)
compared LessEqual v w = ordered int_le (number_in v) (number_in w)
compared Equal v w = equated v w

-- a truth in place of a tree, where there is one
abbrev pub truth_or : Tree → Place → Option Truth → Tree
truth_or t at None = t
truth_or t at (Some b) = trees.Bool at b

-- the one of two parts that a truth takes, if it has the type of the whole
abbrev pub taken : {A : Type 0} → Option Truth → Ty → Ty → Ty → A → A → Option A
taken None y n whole a b = None
taken (Some true) y n whole a b = if same_type y whole then Some a else None
taken (Some false) y n whole a b = if same_type n whole then Some b else None

-- Expressions

abbrev mutual
  pub shrunk : List Class → ClassId → List Binding → Tree → Tree
  shrunk p c scope (trees.leaf at form) = trees.leaf at form
  shrunk p c scope (trees.Assign at name t) = trees.Assign at name (shrunk p c scope t)
  shrunk p c scope (trees.Dispatch at e name es) =
      dispatch_by p (class_of c (type_of p c scope e)) at (shrunk p c scope e) name (shrunk_all p c scope es)
  shrunk p c scope (trees.StaticDispatch at e class name es) =
      trees.StaticDispatch at (shrunk p c scope e) class name (shrunk_all p c scope es)
  shrunk p c scope (trees.If at t y n) =
      unwrap_or
      (taken (truth_in (constant_in (shrunk p c scope t))) (type_of p c scope y) (type_of p c scope n)
      (join_in p c (type_of p c scope y) (type_of p c scope n)) (shrunk p c scope y) (shrunk p c scope n))
      (trees.If at (shrunk p c scope t) (shrunk p c scope y) (shrunk p c scope n))
  shrunk p c scope (trees.While at t b) = trees.While at (shrunk p c scope t) (shrunk p c scope b)
  shrunk p c scope (trees.Block at ts) = trees.Block at (shrunk_all p c scope ts)
  shrunk p c scope (trees.Let at name declared o t) =
      trees.Let at name declared (shrunk_maybe p c scope o) (shrunk p c (with_name name (type_meant p declared.name) scope) t)
  shrunk p c scope (trees.Case at t cs) = trees.Case at (shrunk p c scope t) (shrunk_cases p c scope cs)
  shrunk p c scope (trees.IsVoid at t) =
      truth_or (trees.IsVoid at (shrunk p c scope t)) at (option_map is_void (constant_in (shrunk p c scope t)))
  shrunk p c scope (trees.Not at t) =
      truth_or (trees.Not at (shrunk p c scope t)) at (option_map not (truth_in (constant_in (shrunk p c scope t))))
  shrunk p c scope (trees.Neg at t) =
      number_or (trees.Neg at (shrunk p c scope t)) at (negated (number_in (constant_in (shrunk p c scope t))))
  shrunk p c scope (trees.Arith at op a b) =
      number_or (trees.Arith at op (shrunk p c scope a) (shrunk p c scope b)) at
      (computed op (number_in (constant_in (shrunk p c scope a))) (number_in (constant_in (shrunk p c scope b))))
  shrunk p c scope (trees.Compare at op a b) =
      truth_or (trees.Compare at op (shrunk p c scope a) (shrunk p c scope b)) at
      (compared op (constant_in (shrunk p c scope a)) (constant_in (shrunk p c scope b)))

  pub shrunk_all : List Class → ClassId → List Binding → Trees → Trees
  shrunk_all p c scope Last = Last
  shrunk_all p c scope (More t ts) = More (shrunk p c scope t) (shrunk_all p c scope ts)

  pub shrunk_maybe : List Class → ClassId → List Binding → MaybeTree → MaybeTree
  shrunk_maybe p c scope Without = Without
  shrunk_maybe p c scope (With t) = With (shrunk p c scope t)

  pub shrunk_cases : List Class → ClassId → List Binding → Cases → Cases
  shrunk_cases p c scope NoCase = NoCase
  shrunk_cases p c scope (CaseOf at name declared t cs) =
      CaseOf at name declared (shrunk p c (with_name name (type_meant p declared.name) scope) t) (shrunk_cases p c scope cs)
