-- A folded expression has the same static type as the original expression.
use Rattle.std.proofs.Common.{◌≡◌, ℕ, ℤ, ◌<◌, List, [], ◌∷◌, length, Option, Some, None, Bool as Truth, true, false, refl, sym, ap, ◌∙◌, subst, neg_ℤ}
use Rattle.std.specs.Prelude.{int_lt, int_le, if◌then◌else◌}
use Rattle.cool_syntax.specs.declared.place.Place.{Place}
use Rattle.cool_syntax.specs.declared.operator.ArithOp.{ArithOp}
use Rattle.cool_syntax.specs.declared.operator.CompareOp.{CompareOp}
use Rattle.cool_syntax.specs.declared.operator.CompareOp.TheVariants.{Less, LessEqual, Equal}
use Rattle.cool_syntax.specs.Tree.{Tree, Trees, MaybeTree, Cases, Last, More, Without, With, NoCase, CaseOf}
use Rattle.cool_syntax.specs.Tree as trees
use Rattle.cool_classes.specs.declared.class_id.ClassId.{ClassId}
use Rattle.cool_classes.specs.declared.class_id.Ty.{Ty}
use Rattle.cool_classes.specs.declared.class_id.Ty.TheVariants.{Class as IsClass, SelfType}
use Rattle.cool_classes.specs.Chains.{Class, name_of}
use Rattle.cool_classes.specs.Tables.{IsWholeTable}
use Rattle.cool_rules.specs.Conformance.{IsType, Conforms, class_of}
use Rattle.cool_rules.specs.Rules.{same_type}
use Rattle.cool_rules.specs.Scopes.{AreTypes, Binding}
use Rattle.cool_rules.specs.Typing.{bool_type, int_type, object_type, with_name, branch_types, IsCall, HasType, HaveTypes, HaveItems, HasInit, HaveBranches}
use Rattle.cool_rules.proofs.ChainsOfTables.{below_itself}
use Rattle.cool_rules.proofs.RulesOfTables.{meant_is}
use Rattle.cool_rules.proofs.RulesDecided.{denotes_type, same_types}
use Rattle.cool_rules.proofs.TypesOfMethods.{expression_type}
use Rattle.cool_meaning.specs.Values.{Value}
use Rattle.cool_meaning.specs.Evaluation.{same}
use Rattle.cool_rules.specs.StaticTypes.{type_of}
use Rattle.cool_fold.specs.Folding.{constant_in, number_in, truth_in, one_sort, exactly, result, number_or, arith_by, neg_by, less_by, equal_by, compare_by, not_by, is_void_by, taken_by, if_by, is_redefined, dispatch_by, fold, fold_all, fold_maybe, fold_cases}
use Rattle.cool_rules.proofs.StaticTypesAreGiven.{type_is, class_there}
use Rattle.lists.specs.Different.{AreDifferent}

module _ (p : List Class) (whole : IsWholeTable p) (c : ClassId) (within : c.0 < length p) where
  -- The rows

  number_typed : (scope : List Binding) (t : Tree) (at : Place) (type : Ty) (o : Option ℤ) → type ≡ int_type → HasType p c scope t type → HasType p c scope (number_or t at o) type
  number_typed scope t at type None is h = h
  number_typed scope t at type (Some n) is h = is

  arith_typed : (scope : List Binding) (at : Place) (op : ArithOp) (a b : Tree) (type : Ty) (m n : Option ℤ) → type ≡ int_type → HasType p c scope (trees.Arith at op a b) type → HasType p c scope (arith_by at op a b m n) type
  arith_typed scope at op a b type None n is h = h
  arith_typed scope at op a b type (Some m) None is h = h
  arith_typed scope at op a b type (Some m) (Some n) is h = number_typed scope (trees.Arith at op a b) at type (result op m n) is h

  neg_typed : (scope : List Binding) (at : Place) (a : Tree) (type : Ty) (n : Option ℤ) → type ≡ int_type → HasType p c scope (trees.Neg at a) type → HasType p c scope (neg_by at a n) type
  neg_typed scope at a type None is h = h
  neg_typed scope at a type (Some n) is h = number_typed scope (trees.Neg at a) at type (exactly (neg_ℤ n)) is h

  less_typed : (scope : List Binding) (f : ℤ → ℤ → Truth) (at : Place) (op : CompareOp) (a b : Tree) (type : Ty) (m n : Option ℤ) → type ≡ bool_type → HasType p c scope (trees.Compare at op a b) type → HasType p c scope (less_by f at op a b m n) type
  less_typed scope f at op a b type None n is h = h
  less_typed scope f at op a b type (Some m) None is h = h
  less_typed scope f at op a b type (Some m) (Some n) is h = is

  equal_typed : (scope : List Binding) (at : Place) (a b : Tree) (type : Ty) (v w : Option Value) → type ≡ bool_type → HasType p c scope (trees.Compare at Equal a b) type → HasType p c scope (equal_by at a b v w) type
  equal_typed scope at a b type None w is h = h
  equal_typed scope at a b type (Some v) None is h = h
  equal_typed scope at a b type (Some v) (Some w) is h = by (one_sort v w)
    where
      by : (x : Truth) → HasType p c scope (if x then trees.Bool at (same v w) else trees.Compare at Equal a b) type
      by true = is
      by false = h

  compare_typed : (scope : List Binding) (at : Place) (op : CompareOp) (a b : Tree) (type : Ty) → type ≡ bool_type → HasType p c scope (trees.Compare at op a b) type → HasType p c scope (compare_by at op a b) type
  compare_typed scope at Less a b type is h = less_typed scope int_lt at Less a b type (number_in (constant_in a)) (number_in (constant_in b)) is h
  compare_typed scope at LessEqual a b type is h = less_typed scope int_le at LessEqual a b type (number_in (constant_in a)) (number_in (constant_in b)) is h
  compare_typed scope at Equal a b type is h = equal_typed scope at a b type (constant_in a) (constant_in b) is h

  not_typed : (scope : List Binding) (at : Place) (a : Tree) (type : Ty) (o : Option Truth) → type ≡ bool_type → HasType p c scope (trees.Not at a) type → HasType p c scope (not_by at a o) type
  not_typed scope at a type None is h = h
  not_typed scope at a type (Some b) is h = is

  void_typed : (scope : List Binding) (at : Place) (a : Tree) (type : Ty) (o : Option Value) → type ≡ bool_type → HasType p c scope (trees.IsVoid at a) type → HasType p c scope (is_void_by at a o) type
  void_typed scope at a type None is h = h
  void_typed scope at a type (Some v) is h = is

  taken_typed : (scope : List Binding) (e part : Tree) (t type : Ty) → AreTypes p scope → HasType p c scope e type → HasType p c scope part t → HasType p c scope (taken_by e part (type_of p c scope part) (type_of p c scope e)) type
  taken_typed scope e part t type types h g = by (same_type (type_of p c scope part) (type_of p c scope e)) refl
    where
      by : (x : Truth) → same_type (type_of p c scope part) (type_of p c scope e) ≡ x → HasType p c scope (if x then part else e) type
      by true is =
          subst (λ (u : Ty). HasType p c scope part u) (sym (type_is p whole c within part scope t types g) ∙ same_types (type_of p c scope part) (type_of p c scope e) is ∙ type_is p whole c within e scope type types h) g
      by false is = h

  if_typed : (scope : List Binding) (at : Place) (e y n : Tree) (t u type : Ty) (o : Option Truth) → AreTypes p scope → HasType p c scope (trees.If at e y n) type → HasType p c scope y t → HasType p c scope n u
      → HasType p c scope (if_by p c scope at e y n o) type
  if_typed scope at e y n t u type None types h g k = h
  if_typed scope at e y n t u type (Some true) types h g k = taken_typed scope (trees.If at e y n) y t type types h g
  if_typed scope at e y n t u type (Some false) types h g k = taken_typed scope (trees.If at e y n) n u type types h k

  conforms_to : (t : Ty) → IsType p t → Conforms p c t (IsClass (class_of c t))
  conforms_to SelfType h = below_itself p whole c within
  conforms_to (IsClass a) h = below_itself p whole a h

  dispatch_typed : (scope : List Binding) (at : Place) (e : Tree) (name : List ℕ) (es : Trees) (receiver : Ty) (given : List Ty) (type : Ty) → IsType p receiver → HasType p c scope e receiver → HaveTypes p c scope es given
      → IsCall p c (class_of c receiver) name receiver given type → HasType p c scope (dispatch_by p (class_of c receiver) at e name es) type
  dispatch_typed scope at e name es receiver given type is has have call = by (is_redefined p (class_of c receiver) name)
    where
      by : (x : Truth) → HasType p c scope (if x then trees.Dispatch at e name es else trees.StaticDispatch at e (record { name = name_of p (class_of c receiver); at = at }) name es) type
      by true = (receiver, given, has, have, call)
      by false = (receiver, given, class_of c receiver, has, have, (class_there p whole c within receiver is, refl), conforms_to receiver is, call)

  branches_same : (scope : List Binding) (cs : Cases) → branch_types (fold_cases p c scope cs) ≡ branch_types cs
  branches_same scope NoCase = refl
  branches_same scope (CaseOf at name declared e cs) = ap (λ (xs : List (List ℕ)). declared.name ∷ xs) (branches_same scope cs)

  mutual
    pub still_typed : (e : Tree) (scope : List Binding) (type : Ty) → AreTypes p scope → HasType p c scope e type → HasType p c scope (fold p c scope e) type
    still_typed (trees.Assign at name e) scope type types (declared, other, has, there, conforms) = (declared, other, still_typed e scope type types has, there, conforms)
    still_typed (trees.Dispatch at e name es) scope type types (receiver, given, has, have, call) =
        subst (λ (k : ClassId). HasType p c scope (dispatch_by p k at (fold p c scope e) name (fold_all p c scope es)) type) (sym (ap (class_of c) (type_is p whole c within e scope receiver types has)))
        (dispatch_typed scope at (fold p c scope e) name (fold_all p c scope es) receiver given type (expression_type p whole c within e scope receiver types has) (still_typed e scope receiver types has) (all_typed es scope given types have) call)
    still_typed (trees.StaticDispatch at e class name es) scope type types (receiver, given, k, has, have, denotes, conforms, call) =
        (receiver, given, k, still_typed e scope receiver types has, all_typed es scope given types have, denotes, conforms, call)
    still_typed (trees.If at test y n) scope type types (t, u, has, has1, has2, join) =
        let first = still_typed y scope t types has1 in
        let second = still_typed n scope u types has2 in
        if_typed scope at (fold p c scope test) (fold p c scope y) (fold p c scope n) t u type (truth_in (constant_in (fold p c scope test))) types (t, u, still_typed test scope bool_type types has, first, second, join) first second
    still_typed (trees.While at test body) scope type types (t, has, has1, is) = (t, still_typed test scope bool_type types has, still_typed body scope t types has1, is)
    still_typed (trees.Block at es) scope type types h = items_typed es scope object_type type types h
    still_typed (trees.Let at name declared init e) scope type types (bound, other, denotes, has, has1) = (
      bound,
      other,
      denotes,
      init_typed init scope bound types has,
      subst (λ (t : Ty). HasType p c (with_name name bound scope) (fold p c (with_name name t scope) e) type) (sym (meant_is p whole.table declared.name bound denotes))
          (still_typed e (with_name name bound scope) type (denotes_type p whole declared.name bound denotes, types) has1),
    )
    still_typed (trees.Case at e cs) scope type types (t, ts, has, have, different, join) =
        (t, ts, still_typed e scope t types has, branches_typed cs scope ts types have, subst (λ (xs : List (List ℕ)). AreDifferent xs) (sym (branches_same scope cs)) different, join)
    still_typed (trees.IsVoid at e) scope type types (t, has, is) = void_typed scope at (fold p c scope e) type (constant_in (fold p c scope e)) is (t, still_typed e scope t types has, is)
    still_typed (trees.Not at e) scope type types (has, is) = not_typed scope at (fold p c scope e) type (truth_in (constant_in (fold p c scope e))) is (still_typed e scope bool_type types has, is)
    still_typed (trees.Neg at e) scope type types (has, is) = neg_typed scope at (fold p c scope e) type (number_in (constant_in (fold p c scope e))) is (still_typed e scope int_type types has, is)
    still_typed (trees.Arith at op a b) scope type types (has, has1, is) =
        arith_typed scope at op (fold p c scope a) (fold p c scope b) type (number_in (constant_in (fold p c scope a))) (number_in (constant_in (fold p c scope b))) is
        (still_typed a scope int_type types has, still_typed b scope int_type types has1, is)
    still_typed (trees.Compare at op a b) scope type types (t, u, has, has1, comparable, is) =
        compare_typed scope at op (fold p c scope a) (fold p c scope b) type is (t, u, still_typed a scope t types has, still_typed b scope u types has1, comparable, is)
    still_typed _ scope type types h = h

    all_typed : (es : Trees) (scope : List Binding) (given : List Ty) → AreTypes p scope → HaveTypes p c scope es given → HaveTypes p c scope (fold_all p c scope es) given
    all_typed Last scope [] types h = tt
    all_typed Last scope (t ∷ ts) types h = absurd h
    all_typed (More e es) scope [] types h = absurd h
    all_typed (More e es) scope (t ∷ ts) types h = (still_typed e scope t types h.0, all_typed es scope ts types h.1)

    items_typed : (es : Trees) (scope : List Binding) (before type : Ty) → AreTypes p scope → HaveItems p c scope before es type → HaveItems p c scope before (fold_all p c scope es) type
    items_typed Last scope before type types h = h
    items_typed (More e es) scope before type types (t, has, have) = (t, still_typed e scope t types has, items_typed es scope t type types have)

    init_typed : (o : MaybeTree) (scope : List Binding) (bound : Ty) → AreTypes p scope → HasInit p c scope bound o → HasInit p c scope bound (fold_maybe p c scope o)
    init_typed Without scope bound types h = tt
    init_typed (With e) scope bound types (t, has, conforms) = (t, still_typed e scope t types has, conforms)

    branches_typed : (cs : Cases) (scope : List Binding) (ts : List Ty) → AreTypes p scope → HaveBranches p c scope cs ts → HaveBranches p c scope (fold_cases p c scope cs) ts
    branches_typed NoCase scope [] types h = tt
    branches_typed NoCase scope (t ∷ ts) types h = absurd h
    branches_typed (CaseOf at name declared e cs) scope [] types h = absurd h
    branches_typed (CaseOf at name declared e cs) scope (t ∷ ts) types ((d, other, denotes, has), have) = (
      (
        d,
        other,
        denotes,
        subst (λ (x : Ty). HasType p c (with_name name (IsClass d) scope) (fold p c (with_name name x scope) e) t) (sym (meant_is p whole.table declared.name (IsClass d) denotes))
            (still_typed e (with_name name (IsClass d) scope) t (denotes.0, types) has),
      ),
      branches_typed cs scope ts types have,
    )
