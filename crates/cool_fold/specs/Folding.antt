-- `fold` is the result of constant folding for each form of expression, bottom up; Examples.antt has examples. A constant is a number, a string or a Boolean of
-- the source. An operator whose evaluation would be a run-time error is left as it is, with its source location.
use Rattle.std.specs.Prelude.{ℕ, zero, suc, ◌+◌, ℤ, ◌+ℤ◌, ◌-ℤ◌, ◌*ℤ◌, neg_ℤ, int_div, int_lt, int_le, Bool as Truth, true, false, not, ◌&&◌, if◌then◌else◌, List, [], ◌∷◌, ◌++◌, map, length, Option, Some, None, is_some}
use Rattle.std.specs.List.{list_any}
use Rattle.cool_syntax.specs.declared.place.Place.{Place}
use Rattle.cool_syntax.specs.declared.operator.ArithOp.{ArithOp}
use Rattle.cool_syntax.specs.declared.operator.ArithOp.TheVariants.{Add, Sub, Mul, Div}
use Rattle.cool_syntax.specs.declared.operator.CompareOp.{CompareOp}
use Rattle.cool_syntax.specs.declared.operator.CompareOp.TheVariants.{Less, LessEqual, Equal}
use Rattle.cool_syntax.specs.declared.file_tree.Feature.{Feature}
use Rattle.cool_syntax.specs.declared.file_tree.Feature.TheVariants.{Method, Attribute}
use Rattle.cool_syntax.specs.Tree.{Tree, Trees, MaybeTree, Cases, Last, More, Without, With, NoCase, CaseOf}
use Rattle.cool_syntax.specs.Tree as trees
use Rattle.cool_classes.specs.declared.class_id.ClassId.{ClassId}
use Rattle.cool_classes.specs.declared.class_id.Ty.{Ty}
use Rattle.cool_classes.specs.Chains.{Class, class_number, name_of}
use Rattle.cool_classes.specs.ClimbedChains.{above}
use Rattle.cool_classes.specs.Features.{own_method}
use Rattle.cool_rules.specs.Conformance.{class_of}
use Rattle.cool_rules.specs.NodeTypes.{own_scope}
use Rattle.cool_rules.specs.Rules.{is_among, same_type, type_meant}
use Rattle.cool_rules.specs.Scopes.{Binding}
use Rattle.cool_rules.specs.Typing.{with_name, formals_in_scope}
use Rattle.cool_meaning.specs.Values.{Value, Int, Bool, Str}
use Rattle.cool_meaning.specs.Numbers.{fits, is_zero, signed, word_of}
use Rattle.cool_meaning.specs.Evaluation.{same, is_void}
use Rattle.cool_rules.specs.StaticTypes.{type_of}

-- Constants

-- the value of a constant
abbrev pub constant_in : Tree → Option Value
constant_in (trees.Int at n) = Some (Int (signed n))
constant_in (trees.Str at bytes) = Some (Str bytes)
constant_in (trees.Bool at b) = Some (Bool b)
constant_in _ = None

-- the number or the truth that a value is
abbrev pub number_in : Option Value → Option ℤ
number_in (Some (Int n)) = Some n
number_in _ = None

abbrev pub truth_in : Option Value → Option Truth
truth_in (Some (Bool b)) = Some b
truth_in _ = None

-- values of one sort
abbrev pub one_sort : Value → Value → Truth
one_sort (Int m) (Int n) = true
one_sort (Bool a) (Bool b) = true
one_sort (Str xs) (Str ys) = true
one_sort _ _ = false

-- the result if it fits in 32 bits
abbrev pub exactly : ℤ → Option ℤ
exactly n = if fits n then Some n else None

abbrev pub result : ArithOp → ℤ → ℤ → Option ℤ
result Add m n = exactly (m +ℤ n)
result Sub m n = exactly (m -ℤ n)
result Mul m n = exactly (m *ℤ n)
result Div m n = if is_zero n then None else exactly (int_div m n)

-- Rows: the result for a form, by the constants that its parts are

-- a number in place of a tree, where there is one
abbrev pub number_or : Tree → Place → Option ℤ → Tree
number_or t at None = t
number_or t at (Some n) = trees.Int at (word_of n)

abbrev pub arith_by : Place → ArithOp → Tree → Tree → Option ℤ → Option ℤ → Tree
arith_by at op a b None n = trees.Arith at op a b
arith_by at op a b (Some m) None = trees.Arith at op a b
arith_by at op a b (Some m) (Some n) = number_or (trees.Arith at op a b) at (result op m n)

abbrev pub neg_by : Place → Tree → Option ℤ → Tree
neg_by at a None = trees.Neg at a
neg_by at a (Some n) = number_or (trees.Neg at a) at (exactly (neg_ℤ n))

abbrev pub less_by : (ℤ → ℤ → Truth) → Place → CompareOp → Tree → Tree → Option ℤ → Option ℤ → Tree
less_by f at op a b None n = trees.Compare at op a b
less_by f at op a b (Some m) None = trees.Compare at op a b
less_by f at op a b (Some m) (Some n) = trees.Bool at (f m n)

abbrev pub equal_by : Place → Tree → Tree → Option Value → Option Value → Tree
equal_by at a b None w = trees.Compare at Equal a b
equal_by at a b (Some v) None = trees.Compare at Equal a b
equal_by at a b (Some v) (Some w) = if one_sort v w then trees.Bool at (same v w) else trees.Compare at Equal a b

abbrev pub compare_by : Place → CompareOp → Tree → Tree → Tree
compare_by at Less a b = less_by int_lt at Less a b (number_in (constant_in a)) (number_in (constant_in b))
compare_by at LessEqual a b = less_by int_le at LessEqual a b (number_in (constant_in a)) (number_in (constant_in b))
compare_by at Equal a b = equal_by at a b (constant_in a) (constant_in b)

abbrev pub not_by : Place → Tree → Option Truth → Tree
not_by at a None = trees.Not at a
not_by at a (Some b) = trees.Bool at (not b)

abbrev pub is_void_by : Place → Tree → Option Value → Tree
is_void_by at a None = trees.IsVoid at a
is_void_by at a (Some v) = trees.Bool at (is_void v)

-- the taken part, where it has the type of the whole
abbrev pub taken_by : Tree → Tree → Ty → Ty → Tree
taken_by t part type whole = if same_type type whole then part else t

abbrev pub if_by : List Class → ClassId → List Binding → Place → Tree → Tree → Tree → Option Truth → Tree
if_by p c scope at t y n None = trees.If at t y n
if_by p c scope at t y n (Some true) = taken_by (trees.If at t y n) y (type_of p c scope y) (type_of p c scope (trees.If at t y n))
if_by p c scope at t y n (Some false) = taken_by (trees.If at t y n) n (type_of p c scope n) (type_of p c scope (trees.If at t y n))

-- Dispatches

-- so many classes, from one on
abbrev pub classes_from : ℕ → ℕ → List ClassId
classes_from k zero = []
classes_from k (suc n) = class_number k ∷ classes_from (k + 1) n

-- a class properly below another one defines a method of this name
abbrev pub defines_below : List Class → ClassId → List ℕ → ClassId → Truth
defines_below p k name d = is_among (above p d) k && is_some (own_method p d name)

abbrev pub is_redefined : List Class → ClassId → List ℕ → Truth
is_redefined p k name = list_any (defines_below p k name) (classes_from 0 (length p))

-- a dispatch on a receiver of class k
abbrev pub dispatch_by : List Class → ClassId → Place → Tree → List ℕ → Trees → Tree
dispatch_by p k at e name es =
    if is_redefined p k name then trees.Dispatch at e name es
    else trees.StaticDispatch at e (record { name = name_of p k; at = at }) name es

-- Expressions

abbrev mutual
  pub fold : List Class → ClassId → List Binding → Tree → Tree
  fold p c scope (trees.leaf at form) = trees.leaf at form
  fold p c scope (trees.Assign at name t) = trees.Assign at name (fold p c scope t)
  fold p c scope (trees.Dispatch at e name es) = dispatch_by p (class_of c (type_of p c scope e)) at (fold p c scope e) name (fold_all p c scope es)
  fold p c scope (trees.StaticDispatch at e class name es) = trees.StaticDispatch at (fold p c scope e) class name (fold_all p c scope es)
  fold p c scope (trees.If at t y n) =
      if_by p c scope at (fold p c scope t) (fold p c scope y) (fold p c scope n) (truth_in (constant_in (fold p c scope t)))
  fold p c scope (trees.While at t b) = trees.While at (fold p c scope t) (fold p c scope b)
  fold p c scope (trees.Block at ts) = trees.Block at (fold_all p c scope ts)
  fold p c scope (trees.Let at name declared o t) =
      trees.Let at name declared (fold_maybe p c scope o) (fold p c (with_name name (type_meant p declared.name) scope) t)
  fold p c scope (trees.Case at t cs) = trees.Case at (fold p c scope t) (fold_cases p c scope cs)
  fold p c scope (trees.IsVoid at t) = is_void_by at (fold p c scope t) (constant_in (fold p c scope t))
  fold p c scope (trees.Not at t) = not_by at (fold p c scope t) (truth_in (constant_in (fold p c scope t)))
  fold p c scope (trees.Neg at t) = neg_by at (fold p c scope t) (number_in (constant_in (fold p c scope t)))
  fold p c scope (trees.Arith at op a b) =
      arith_by at op (fold p c scope a) (fold p c scope b) (number_in (constant_in (fold p c scope a))) (number_in (constant_in (fold p c scope b)))
  fold p c scope (trees.Compare at op a b) = compare_by at op (fold p c scope a) (fold p c scope b)

  pub fold_all : List Class → ClassId → List Binding → Trees → Trees
  fold_all p c scope Last = Last
  fold_all p c scope (More t ts) = More (fold p c scope t) (fold_all p c scope ts)

  pub fold_maybe : List Class → ClassId → List Binding → MaybeTree → MaybeTree
  fold_maybe p c scope Without = Without
  fold_maybe p c scope (With t) = With (fold p c scope t)

  pub fold_cases : List Class → ClassId → List Binding → Cases → Cases
  fold_cases p c scope NoCase = NoCase
  fold_cases p c scope (CaseOf at name declared t cs) =
      CaseOf at name declared (fold p c (with_name name (type_meant p declared.name) scope) t) (fold_cases p c scope cs)

-- Features and tables: the bodies of each class, with its attributes in scope

abbrev pub fold_option : List Class → ClassId → Option Tree → Option Tree
fold_option p c None = None
fold_option p c (Some t) = Some (fold p c (own_scope p c) t)

abbrev pub fold_feature : List Class → ClassId → Feature → Feature
fold_feature p c (Method m) = Method (record m { body = fold p c (formals_in_scope p m.formals ++ own_scope p c) m.body })
fold_feature p c (Attribute a) = Attribute (record a { init = fold_option p c a.init })

abbrev pub fold_from : List Class → ℕ → List Class → List Class
fold_from p k [] = []
fold_from p k (d ∷ ds) = record d { features = map (fold_feature p (class_number k)) d.features } ∷ fold_from p (k + 1) ds

abbrev pub fold_table : List Class → List Class
fold_table p = fold_from p 0 p
