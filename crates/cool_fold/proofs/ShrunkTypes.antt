-- The folded expression that `shrunk` of `Shrinking.antt` returns has the same static type as the original expression, even if that has type errors.
use Rattle.std.proofs.Common.{◌≡◌, ℕ, ℤ, ◌<◌, List, length, Option, Some, None, Bool as Truth, true, false, refl, ap, ◌∙◌}
use Rattle.std.specs.Prelude.{not, if◌then◌else◌, unwrap_or}
use Rattle.std.specs.Option.{option_map}
use Rattle.cool_syntax.specs.declared.place.Place.{Place}
use Rattle.cool_syntax.specs.Tree.{Tree, Trees, Cases, Last, More, NoCase, CaseOf}
use Rattle.cool_syntax.specs.Tree as trees
use Rattle.cool_classes.specs.declared.class_id.ClassId.{ClassId}
use Rattle.cool_classes.specs.declared.class_id.Ty.{Ty}
use Rattle.cool_classes.specs.declared.class_id.Ty.TheVariants.{Class as IsClass, SelfType}
use Rattle.cool_classes.specs.Chains.{Class, name_of}
use Rattle.cool_classes.specs.Tables.{IsWholeTable}
use Rattle.cool_rules.specs.Conformance.{IsType, class_of}
use Rattle.cool_rules.specs.Meant.{joined, type_of_call}
use Rattle.cool_rules.specs.Rules.{same_type, join_in, type_meant}
use Rattle.cool_rules.specs.Scopes.{AreTypes, Binding}
use Rattle.cool_rules.specs.StaticTypes.{type_of, last_type_of, cases_type_of}
use Rattle.cool_rules.specs.Typing.{bool_type, int_type, object_type, with_name}
use Rattle.cool_rules.proofs.RulesDecided.{same_types}
use Rattle.cool_rules.proofs.RulesOfTables.{meant_is}
use Rattle.cool_rules.proofs.TypesAreTypes.{meant_is_type, type_is_type}
use Rattle.cool_meaning.specs.Evaluation.{is_void}
use Rattle.cool_fold.specs.Folding.{constant_in, number_in, truth_in, number_or, is_redefined, dispatch_by}
use Rattle.cool_fold.specs.Shrinking.{computed, negated, compared, truth_or, taken, shrunk, shrunk_all, shrunk_cases}

module _ (p : List Class) (whole : IsWholeTable p) (c : ClassId) (within : c.0 < length p) where
  -- The rows

  number_type : (scope : List Binding) (t : Tree) (at : Place) (o : Option ℤ) → type_of p c scope t ≡ int_type
      → type_of p c scope (number_or t at o) ≡ int_type
  number_type scope t at None is = is
  number_type scope t at (Some n) is = refl

  truth_type : (scope : List Binding) (t : Tree) (at : Place) (o : Option Truth) → type_of p c scope t ≡ bool_type
      → type_of p c scope (truth_or t at o) ≡ bool_type
  truth_type scope t at None is = is
  truth_type scope t at (Some b) is = refl

  -- a part in place of the whole, where their types are one
  part_type : (scope : List Binding) (part e : Tree) (t type : Ty) (x : Truth) → same_type t type ≡ x → type_of p c scope part ≡ t
      → type_of p c scope e ≡ type → type_of p c scope (unwrap_or (if x then Some part else None) e) ≡ type
  part_type scope part e t type true one is others = is ∙ same_types t type one
  part_type scope part e t type false one is others = others

  taken_type : (scope : List Binding) (y n e : Tree) (t u type : Ty) (o : Option Truth) → type_of p c scope y ≡ t
      → type_of p c scope n ≡ u → type_of p c scope e ≡ type
      → type_of p c scope (unwrap_or (taken o t u type y n) e) ≡ type
  taken_type scope y n e t u type None first second is = is
  taken_type scope y n e t u type (Some true) first second is = part_type scope y e t type (same_type t type) refl first is
  taken_type scope y n e t u type (Some false) first second is = part_type scope n e u type (same_type u type) refl second is

  receiver_there : (t : Ty) → IsType p t → (class_of c t).0 < length p
  receiver_there SelfType h = within
  receiver_there (IsClass a) h = h

  -- the name of the receiver's class means the class
  dispatch_type : (scope : List Binding) (at : Place) (e : Tree) (name : List ℕ) (es : Trees) (receiver : Ty) → IsType p receiver
      → type_of p c scope e ≡ receiver
      → type_of p c scope (dispatch_by p (class_of c receiver) at e name es) ≡ type_of_call p (class_of c receiver) receiver name
  dispatch_type scope at e name es receiver is same = by (is_redefined p (class_of c receiver) name)
    where
      k : ClassId
      k = class_of c receiver

      named : class_of c (type_meant p (name_of p k)) ≡ k
      named = ap (class_of c) (meant_is p whole.table (name_of p k) (IsClass k) (receiver_there receiver is, refl))

      direct : Tree
      direct = trees.StaticDispatch at e (record { name = name_of p k; at = at }) name es

      by : (x : Truth) → type_of p c scope (if x then trees.Dispatch at e name es else direct) ≡ type_of_call p k receiver name
      by true = ap (λ (t : Ty). type_of_call p (class_of c t) t name) same
      by false =
          ap (λ (t : Ty). type_of_call p (class_of c (type_meant p (name_of p k))) t name) same
          ∙ ap (λ (d : ClassId). type_of_call p d receiver name) named

  -- Expressions

  mutual
    pub shrunk_type : (e : Tree) (scope : List Binding) → AreTypes p scope → type_of p c scope (shrunk p c scope e) ≡ type_of p c scope e
    shrunk_type (trees.leaf at form) scope types = refl
    shrunk_type (trees.Assign at name e) scope types = shrunk_type e scope types
    shrunk_type (trees.Dispatch at e name es) scope types =
        dispatch_type scope at (shrunk p c scope e) name (shrunk_all p c scope es) (type_of p c scope e)
        (type_is_type p whole c within e scope types) (shrunk_type e scope types)
    shrunk_type (trees.StaticDispatch at e class name es) scope types =
        ap (λ (t : Ty). type_of_call p (class_of c (type_meant p class.name)) t name) (shrunk_type e scope types)
    shrunk_type (trees.If at e y n) scope types =
        let first = shrunk_type y scope types in
        let second = shrunk_type n scope types in
        let t : Ty = type_of p c scope y in
        let u : Ty = type_of p c scope n in
        let a = shrunk p c scope y in
        let b = shrunk p c scope n in
        taken_type scope a b (trees.If at (shrunk p c scope e) a b) t u (join_in p c t u) (truth_in (constant_in (shrunk p c scope e))) first
        second (λ i. join_in p c (first i) (second i))
    shrunk_type (trees.While at e b) scope types = refl
    shrunk_type (trees.Block at es) scope types = last_type es scope object_type types
    shrunk_type (trees.Let at name declared o e) scope types =
        shrunk_type e (with_name name (type_meant p declared.name) scope) (meant_is_type p whole declared.name, types)
    shrunk_type (trees.Case at e cs) scope types = ap (λ (o : Option Ty). unwrap_or o object_type) (cases_type cs scope None types)
    shrunk_type (trees.IsVoid at e) scope types =
        truth_type scope (trees.IsVoid at (shrunk p c scope e)) at (option_map is_void (constant_in (shrunk p c scope e))) refl
    shrunk_type (trees.Not at e) scope types =
        truth_type scope (trees.Not at (shrunk p c scope e)) at (option_map not (truth_in (constant_in (shrunk p c scope e)))) refl
    shrunk_type (trees.Neg at e) scope types =
        number_type scope (trees.Neg at (shrunk p c scope e)) at (negated (number_in (constant_in (shrunk p c scope e)))) refl
    shrunk_type (trees.Arith at op a b) scope types =
        number_type scope (trees.Arith at op (shrunk p c scope a) (shrunk p c scope b)) at
        (computed op (number_in (constant_in (shrunk p c scope a))) (number_in (constant_in (shrunk p c scope b)))) refl
    shrunk_type (trees.Compare at op a b) scope types =
        truth_type scope (trees.Compare at op (shrunk p c scope a) (shrunk p c scope b)) at
        (compared op (constant_in (shrunk p c scope a)) (constant_in (shrunk p c scope b))) refl

    last_type : (es : Trees) (scope : List Binding) (before : Ty) → AreTypes p scope
        → last_type_of p c scope before (shrunk_all p c scope es) ≡ last_type_of p c scope before es
    last_type Last scope before types = refl
    last_type (More e es) scope before types =
        ap (λ (t : Ty). last_type_of p c scope t (shrunk_all p c scope es)) (shrunk_type e scope types)
        ∙ last_type es scope (type_of p c scope e) types

    cases_type : (cs : Cases) (scope : List Binding) (join : Option Ty) → AreTypes p scope
        → cases_type_of p c scope join (shrunk_cases p c scope cs) ≡ cases_type_of p c scope join cs
    cases_type NoCase scope join types = refl
    cases_type (CaseOf at name declared e cs) scope join types =
        let inner = with_name name (type_meant p declared.name) scope in
        ap (λ (t : Ty). cases_type_of p c scope (Some (joined p c join t)) (shrunk_cases p c scope cs))
        (shrunk_type e inner (meant_is_type p whole declared.name, types))
        ∙ cases_type cs scope (Some (joined p c join (type_of p c inner e))) types
