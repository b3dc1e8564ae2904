-- `FeatureFails` says which typing rule is not met if a feature has a given type error: the rule of a subexpression that has no type, although each part that
-- is checked before has one. This rule fails by a premise of its own (the Cool manual, section 12).
use Rattle.std.specs.Prelude.{◌≡◌, ◌⊎◌, refl, List, [], ◌∷◌, ◌++◌, Contains, Option, Some, None, codes}
use Rattle.std.specs.List.{AllByRecursion}
use Rattle.cool_syntax.specs.declared.file_tree.Feature.{Feature}
use Rattle.cool_syntax.specs.declared.file_tree.Feature.TheVariants.{Method, Attribute}
use Rattle.cool_syntax.specs.declared.place.Place.{Place}
use Rattle.cool_syntax.specs.Tree.{Tree, Trees, MaybeTree, Cases, Last, More, Without, With, NoCase, CaseOf}
use Rattle.cool_syntax.specs.Tree as trees
use Rattle.cool_classes.specs.declared.class_id.ClassId.{ClassId}
use Rattle.cool_classes.specs.declared.class_id.Ty.{Ty}
use Rattle.cool_classes.specs.Chains.{Class}
use Rattle.cool_rules.specs.Rules.{type_meant}
use Rattle.cool_rules.specs.Scopes.{Binding}
use Rattle.cool_rules.specs.Typing.{HasType, IsTypedFeature, with_name}
use Rattle.cool_check.specs.declared.fault.TypeFault.{TypeFault}
use Rattle.cool_check.specs.declared.fault.TypeKind.{TypeKind}
use Rattle.cool_check.specs.declared.fault.TypeKind.TheVariants.{E1, E2, E3, E4, E5, E6, E7, E8, E9, E10, E11, E12, E13, E14, E15, E16, E17, E18}
use Rattle.cool_check.specs.declared.fault.TypingRule.{TypingRule}
use Rattle.cool_check.specs.declared.fault.TypingRule.TheVariants as typing
use Rattle.cool_check.specs.Contexts.{attribute_bindings, formal_bindings}

-- the kinds of faults by which a rule fails although the parts that it checks before have types
abbrev pub premises : TypingRule → List TypeKind
premises typing.Id = E1 ∷ []
premises typing.Assign = E1 ∷ E2 ∷ E3 ∷ []
premises typing.Dispatch = E4 ∷ E5 ∷ E6 ∷ []
premises typing.StaticDispatch = E4 ∷ E5 ∷ E6 ∷ E7 ∷ E8 ∷ E11 ∷ []
premises typing.If = E9 ∷ []
premises typing.While = E9 ∷ []
premises typing.Let = E10 ∷ E11 ∷ E17 ∷ []
premises typing.Case = E10 ∷ E11 ∷ E12 ∷ E13 ∷ []
premises typing.New = E11 ∷ []
premises typing.Not = E16 ∷ []
premises typing.Neg = E14 ∷ []
premises typing.Arith = E14 ∷ []
premises typing.Compare = E14 ∷ E15 ∷ []
premises typing.Attribute = E17 ∷ []
premises typing.Method = E18 ∷ []

-- The rule of a form of expression, if there are such faults. The rules of constants, blocks and `isvoid` fail only if a part has no type.
abbrev pub rule_of : Tree → Option TypingRule
rule_of (trees.Id at name) = Some typing.Id
rule_of (trees.Assign at name e) = Some typing.Assign
rule_of (trees.Dispatch at e name es) = Some typing.Dispatch
rule_of (trees.StaticDispatch at e class name es) = Some typing.StaticDispatch
rule_of (trees.If at test first second) = Some typing.If
rule_of (trees.While at test body) = Some typing.While
rule_of (trees.Block at es) = None
rule_of (trees.Let at name declared init e) = Some typing.Let
rule_of (trees.Case at e cs) = Some typing.Case
rule_of (trees.New at class) = Some typing.New
rule_of (trees.IsVoid at e) = None
rule_of (trees.Not at e) = Some typing.Not
rule_of (trees.Neg at e) = Some typing.Neg
rule_of (trees.Arith at op a b) = Some typing.Arith
rule_of (trees.Compare at op a b) = Some typing.Compare
rule_of (trees.Int at n) = None
rule_of (trees.Str at bytes) = None
rule_of (trees.Bool at b) = None

-- an expression, and the names in scope where it stands
pub record Part : Type 0 where
  pub scope : List Binding
  pub tree : Tree

abbrev pub part : List Binding → Tree → Part
part scope e = record { scope = scope; tree = e }

-- several expressions in one scope, one that may be missing, and the bodies of branches, each with its variable in scope
abbrev pub all_in : List Binding → Trees → List Part
all_in scope Last = []
all_in scope (More e es) = part scope e ∷ all_in scope es

abbrev pub maybe_in : List Binding → MaybeTree → List Part
maybe_in scope Without = []
maybe_in scope (With e) = part scope e ∷ []

abbrev pub branches_in : List Class → List Binding → Cases → List Part
branches_in p scope NoCase = []
branches_in p scope (CaseOf at name declared e cs) = part (with_name name (type_meant p declared.name) scope) e ∷ branches_in p scope cs

-- the parts of an expression, in the order in which they are checked
abbrev pub parts : List Class → List Binding → Tree → List Part
parts p scope (trees.Id at name) = []
parts p scope (trees.Assign at name e) = part scope e ∷ []
parts p scope (trees.Dispatch at e name es) = part scope e ∷ all_in scope es
parts p scope (trees.StaticDispatch at e class name es) = part scope e ∷ all_in scope es
parts p scope (trees.If at test first second) = part scope test ∷ part scope first ∷ part scope second ∷ []
parts p scope (trees.While at test body) = part scope test ∷ part scope body ∷ []
parts p scope (trees.Block at es) = all_in scope es
parts p scope (trees.Let at name declared init e) = maybe_in scope init ++ part (with_name name (type_meant p declared.name) scope) e ∷ []
parts p scope (trees.Case at e cs) = part scope e ∷ branches_in p scope cs
parts p scope (trees.New at class) = []
parts p scope (trees.IsVoid at e) = part scope e ∷ []
parts p scope (trees.Not at e) = part scope e ∷ []
parts p scope (trees.Neg at e) = part scope e ∷ []
parts p scope (trees.Arith at op a b) = part scope a ∷ part scope b ∷ []
parts p scope (trees.Compare at op a b) = part scope a ∷ part scope b ∷ []
parts p scope (trees.Int at n) = []
parts p scope (trees.Str at bytes) = []
parts p scope (trees.Bool at b) = []

-- each part has a type in class c
abbrev pub AreTyped : List Class → ClassId → List Part → Type 0
AreTyped p c = AllByRecursion (λ x. (t : Ty) × HasType p c x.scope x.tree t)

-- the bodies of the branches before the one whose variable or type stands at this place have types
abbrev pub AreTypedBranches : List Class → ClassId → List Binding → Place → Cases → Type 0
AreTypedBranches p c scope here NoCase = ⊥
AreTypedBranches p c scope here (CaseOf at name declared e cs) =
    ((here ≡ at) ⊎ (here ≡ declared.at))
    ⊎ (((t : Ty) × HasType p c (with_name name (type_meant p declared.name) scope) e t) × AreTypedBranches p c scope here cs)

-- The parts that are checked before a premise at this place have types: all parts, but of a `let` only the initial value, and of a `case` the value and
-- the branches before that place.
abbrev pub AreTypedBefore : List Class → ClassId → List Binding → Place → Tree → Type 0
AreTypedBefore p c scope here (trees.Let at name declared init e) = AreTyped p c (maybe_in scope init)
AreTypedBefore p c scope here (trees.Case at e cs) = ((t : Ty) × HasType p c scope e t) × AreTypedBranches p c scope here cs
AreTypedBefore p c scope here (trees.Id at name) = AreTyped p c (parts p scope (trees.Id at name))
AreTypedBefore p c scope here (trees.Assign at name e) = AreTyped p c (parts p scope (trees.Assign at name e))
AreTypedBefore p c scope here (trees.Dispatch at e name es) = AreTyped p c (parts p scope (trees.Dispatch at e name es))
AreTypedBefore p c scope here (trees.StaticDispatch at e class name es) = AreTyped p c (parts p scope (trees.StaticDispatch at e class name es))
AreTypedBefore p c scope here (trees.If at test first second) = AreTyped p c (parts p scope (trees.If at test first second))
AreTypedBefore p c scope here (trees.While at test body) = AreTyped p c (parts p scope (trees.While at test body))
AreTypedBefore p c scope here (trees.Block at es) = AreTyped p c (parts p scope (trees.Block at es))
AreTypedBefore p c scope here (trees.New at class) = AreTyped p c (parts p scope (trees.New at class))
AreTypedBefore p c scope here (trees.IsVoid at e) = AreTyped p c (parts p scope (trees.IsVoid at e))
AreTypedBefore p c scope here (trees.Not at e) = AreTyped p c (parts p scope (trees.Not at e))
AreTypedBefore p c scope here (trees.Neg at e) = AreTyped p c (parts p scope (trees.Neg at e))
AreTypedBefore p c scope here (trees.Arith at op a b) = AreTyped p c (parts p scope (trees.Arith at op a b))
AreTypedBefore p c scope here (trees.Compare at op a b) = AreTyped p c (parts p scope (trees.Compare at op a b))
AreTypedBefore p c scope here (trees.Int at n) = AreTyped p c (parts p scope (trees.Int at n))
AreTypedBefore p c scope here (trees.Str at bytes) = AreTyped p c (parts p scope (trees.Str at bytes))
AreTypedBefore p c scope here (trees.Bool at b) = AreTyped p c (parts p scope (trees.Bool at b))

-- In class c and this scope the rule of an expression fails by the premise that the fault names: the expression has no type, the rule is that of its form,
-- and what is checked before the premise has types.
pub record FailsItself (p : List Class) (c : ClassId) (fault : TypeFault) (scope : List Binding) (e : Tree) : Type 0 where
  pub rule : rule_of e ≡ Some fault.rule
  pub premise : Contains (premises fault.rule) fault.kind
  pub untyped : (t : Ty) → HasType p c scope e t → ⊥
  pub before : AreTypedBefore p c scope fault.at e

-- the rule of the expression fails, or the rule of a part fails, and the parts before that one have types
pub data Fails (p : List Class) (c : ClassId) (fault : TypeFault) : List Binding → Tree → Type 0 where
  itself : (scope : List Binding) (e : Tree) → FailsItself p c fault scope e → Fails p c fault scope e
  within : (scope : List Binding) (e : Tree) (before : List Part) (x : Part) (after : List Part) → parts p scope e ≡ before ++ x ∷ after → AreTyped p c before
      → Fails p c fault x.scope x.tree → Fails p c fault scope e

-- a rule of the expression of a feature fails, or the expression has a type and the feature's own rule fails
abbrev pub FailsWithin : List Class → ClassId → TypeFault → Feature → List Binding → Tree → TypingRule → Type 0
FailsWithin p c fault x scope e rule =
    Fails p c fault scope e
    ⊎ ((fault.rule ≡ rule) × Contains (premises rule) fault.kind × AreTyped p c (part scope e ∷ []) × (IsTypedFeature p c x → ⊥))

abbrev pub FeatureFails : List Class → ClassId → TypeFault → Feature → Type 0
FeatureFails p c fault (Method m) = FailsWithin p c fault (Method m) (formal_bindings p m.formals ++ attribute_bindings p c) m.body typing.Method
FeatureFails p c fault (Attribute a) =
    (e : Tree) × (a.init ≡ Some e) × FailsWithin p c fault (Attribute a) (attribute_bindings p c) e typing.Attribute

-- Worked examples: the first premise of `x <- 1` that can fail is that of the name, and the body of a `let` is checked in the scope with its variable.
name_of_assignment : (p : Place) → rule_of (trees.Assign p (codes "x") (trees.Int p 1)) ≡ Some typing.Assign
name_of_assignment p = refl

parts_of_let : (p : List Class) (scope : List Binding) (at : Place) (a b : Tree)
    → parts p scope (trees.Let at (codes "x") (record { name = codes "Int"; at = at }) (With a) b)
    ≡ part scope a ∷ part (with_name (codes "x") (type_meant p (codes "Int")) scope) b ∷ []
parts_of_let p scope at a b = refl
