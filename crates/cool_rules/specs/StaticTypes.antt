-- `type_of` is the static type of an expression, as a function (the Cool manual, sections 4, 7 and 12): if the typing rules give the expression a type, it is
-- this one (`IsTypeWhereTyped`). If they give none, the function returns an arbitrary type.
use Rattle.std.specs.Prelude.{◌≡◌, ◌<◌, List, length, Option, Some, None, unwrap_or}
use Rattle.std.specs.List.{AllByRecursion}
use Rattle.cool_syntax.specs.Tree.{Tree, Trees, Cases, Last, More, NoCase, CaseOf}
use Rattle.cool_syntax.specs.Tree as trees
use Rattle.cool_classes.specs.declared.class_id.ClassId.{ClassId}
use Rattle.cool_classes.specs.declared.class_id.Ty.{Ty}
use Rattle.cool_classes.specs.Chains.{Class}
use Rattle.cool_rules.specs.Conformance.{class_of, IsType}
use Rattle.cool_rules.specs.Meant.{joined, type_of_call}
use Rattle.cool_rules.specs.Rules.{join_in, type_meant}
use Rattle.cool_rules.specs.Scopes.{Binding}
use Rattle.cool_rules.specs.Typing.{type_in_scope, with_name, object_type, int_type, bool_type, string_type, HasType}

-- the type of an expression of a class, with these names in scope
abbrev mutual
  pub type_of : List Class → ClassId → List Binding → Tree → Ty
  type_of p c scope (trees.Id at name) = unwrap_or (type_in_scope scope name) object_type
  type_of p c scope (trees.Assign at name t) = type_of p c scope t
  type_of p c scope (trees.Dispatch at t name ts) = type_of_call p (class_of c (type_of p c scope t)) (type_of p c scope t) name
  type_of p c scope (trees.StaticDispatch at t class name ts) = type_of_call p (class_of c (type_meant p class.name)) (type_of p c scope t) name
  type_of p c scope (trees.If at t y n) = join_in p c (type_of p c scope y) (type_of p c scope n)
  type_of p c scope (trees.While at t b) = object_type
  type_of p c scope (trees.Block at ts) = last_type_of p c scope object_type ts
  type_of p c scope (trees.Let at name declared o t) = type_of p c (with_name name (type_meant p declared.name) scope) t
  type_of p c scope (trees.Case at t cs) = unwrap_or (cases_type_of p c scope None cs) object_type
  type_of p c scope (trees.New at class) = type_meant p class.name
  type_of p c scope (trees.IsVoid at t) = bool_type
  type_of p c scope (trees.Arith at op a b) = int_type
  type_of p c scope (trees.Neg at t) = int_type
  type_of p c scope (trees.Compare at op a b) = bool_type
  type_of p c scope (trees.Not at t) = bool_type
  type_of p c scope (trees.Int at value) = int_type
  type_of p c scope (trees.Str at bytes) = string_type
  type_of p c scope (trees.Bool at value) = bool_type

  -- the type of the last item of a block, after one of this type
  pub last_type_of : List Class → ClassId → List Binding → Ty → Trees → Ty
  last_type_of p c scope last Last = last
  last_type_of p c scope last (More t ts) = last_type_of p c scope (type_of p c scope t) ts

  -- the join of the branches after branches with this join
  pub cases_type_of : List Class → ClassId → List Binding → Option Ty → Cases → Option Ty
  cases_type_of p c scope join NoCase = join
  cases_type_of p c scope join (CaseOf at name declared t cs) =
      cases_type_of p c scope (Some (joined p c join (type_of p c (with_name name (type_meant p declared.name) scope) t))) cs

-- in a class, and a scope whose names have types of the table, an expression that the rules type has its static type
abbrev pub IsTypeWhereTyped : List Class → Type 0
IsTypeWhereTyped p =
    (c : ClassId) (scope : List Binding) (e : Tree) (type : Ty) → c.0 < length p → AllByRecursion (λ b. IsType p b.value) scope → HasType p c scope e type → type_of p c scope e ≡ type
