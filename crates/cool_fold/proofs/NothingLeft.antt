-- A folded expression has no node that can be folded further.
use Rattle.std.proofs.Common.{◌≡◌, ℕ, ℤ, ◌<◌, List, [], ◌∷◌, length, Option, Some, None, Bool as Truth, true, false, refl, sym, ap, ◌∙◌, subst, neg_ℤ}
use Rattle.std.specs.Prelude.{int_lt, int_le, if◌then◌else◌}
use Rattle.cool_syntax.specs.declared.place.Place.{Place}
use Rattle.cool_syntax.specs.declared.operator.ArithOp.{ArithOp}
use Rattle.cool_syntax.specs.declared.operator.CompareOp.{CompareOp}
use Rattle.cool_syntax.specs.declared.operator.CompareOp.TheVariants.{Less, LessEqual, Equal}
use Rattle.cool_syntax.specs.Tree.{Tree, Trees, MaybeTree, Cases, Last, More, Without, With, NoCase, CaseOf}
use Rattle.cool_syntax.specs.Tree as trees
use Rattle.cool_classes.specs.declared.class_id.ClassId.{ClassId}
use Rattle.cool_classes.specs.declared.class_id.Ty.{Ty}
use Rattle.cool_classes.specs.declared.class_id.Ty.TheVariants.{Class as IsClass}
use Rattle.cool_classes.specs.Chains.{Class, name_of}
use Rattle.cool_classes.specs.Tables.{IsWholeTable}
use Rattle.cool_rules.specs.Conformance.{class_of}
use Rattle.cool_rules.specs.Rules.{same_type}
use Rattle.cool_rules.specs.Scopes.{AreTypes, Binding}
use Rattle.cool_rules.specs.Typing.{bool_type, int_type, object_type, with_name, HasType, HaveTypes, HaveItems, HasInit, HaveBranches}
use Rattle.cool_rules.proofs.RulesOfTables.{meant_is}
use Rattle.cool_rules.proofs.RulesDecided.{denotes_type}
use Rattle.cool_meaning.specs.Values.{Value}
use Rattle.cool_meaning.specs.Evaluation.{same}
use Rattle.cool_rules.specs.StaticTypes.{type_of}
use Rattle.cool_fold.specs.Folding.{constant_in, number_in, truth_in, one_sort, exactly, result, number_or, arith_by, neg_by, less_by, equal_by, compare_by, not_by, is_void_by, taken_by, if_by, is_redefined, dispatch_by, fold, fold_all, fold_maybe, fold_cases}
use Rattle.cool_rules.proofs.StaticTypesAreGiven.{type_is}
use Rattle.cool_fold.specs.Foldable.{IsNoResult, IsNoNegation, AreNotNumbers, AreNotOfOneSort, IsNotTaken, IsDone, AreDone, IsMaybeDone, AreCasesDone}
use Rattle.cool_fold.proofs.FoldedTypes.{still_typed}

module _ (p : List Class) (whole : IsWholeTable p) (c : ClassId) (within : c.0 < length p) where
  -- The rows

  arith_done : (scope : List Binding) (at : Place) (op : ArithOp) (a b : Tree) → IsDone p c scope a → IsDone p c scope b → IsDone p c scope (arith_by at op a b (number_in (constant_in a)) (number_in (constant_in b)))
  arith_done scope at op a b h g = by (number_in (constant_in a)) (number_in (constant_in b)) refl refl
    where
      computed : (o : Option ℤ) → (o ≡ None → IsDone p c scope (trees.Arith at op a b)) → IsDone p c scope (number_or (trees.Arith at op a b) at o)
      computed None k = k refl
      computed (Some n) k = tt

      by : (m n : Option ℤ) → number_in (constant_in a) ≡ m → number_in (constant_in b) ≡ n → IsDone p c scope (arith_by at op a b m n)
      by None n e f = (subst (λ (x : Option ℤ). IsNoResult op x (number_in (constant_in b))) (sym e) tt, h, g)
      by (Some m) None e f = (subst (λ (x : Option ℤ). IsNoResult op x (number_in (constant_in b))) (sym e) (subst (λ (y : Option ℤ). IsNoResult op (Some m) y) (sym f) tt), h, g)
      by (Some m) (Some n) e f =
          computed (result op m n) (λ none. (subst (λ (x : Option ℤ). IsNoResult op x (number_in (constant_in b))) (sym e) (subst (λ (y : Option ℤ). IsNoResult op (Some m) y) (sym f) none), h, g))

  neg_done : (scope : List Binding) (at : Place) (a : Tree) → IsDone p c scope a → IsDone p c scope (neg_by at a (number_in (constant_in a)))
  neg_done scope at a h = by (number_in (constant_in a)) refl
    where
      computed : (o : Option ℤ) → (o ≡ None → IsDone p c scope (trees.Neg at a)) → IsDone p c scope (number_or (trees.Neg at a) at o)
      computed None k = k refl
      computed (Some n) k = tt

      by : (m : Option ℤ) → number_in (constant_in a) ≡ m → IsDone p c scope (neg_by at a m)
      by None e = (subst IsNoNegation (sym e) tt, h)
      by (Some m) e = computed (exactly (neg_ℤ m)) (λ none. (subst IsNoNegation (sym e) none, h))

  less_done : (scope : List Binding) (f : ℤ → ℤ → Truth) (at : Place) (op : CompareOp) (a b : Tree) (m n : Option ℤ) → (AreNotNumbers m n → IsDone p c scope (trees.Compare at op a b)) → IsDone p c scope (less_by f at op a b m n)
  less_done scope f at op a b None n k = k tt
  less_done scope f at op a b (Some m) None k = k tt
  less_done scope f at op a b (Some m) (Some n) k = tt

  equal_done : (scope : List Binding) (at : Place) (a b : Tree) (v w : Option Value) → (AreNotOfOneSort v w → IsDone p c scope (trees.Compare at Equal a b)) → IsDone p c scope (equal_by at a b v w)
  equal_done scope at a b None w k = k tt
  equal_done scope at a b (Some v) None k = k tt
  equal_done scope at a b (Some v) (Some w) k = by (one_sort v w) refl
    where
      by : (x : Truth) → one_sort v w ≡ x → IsDone p c scope (if x then trees.Bool at (same v w) else trees.Compare at Equal a b)
      by true e = tt
      by false e = k e

  compare_done : (scope : List Binding) (at : Place) (op : CompareOp) (a b : Tree) → IsDone p c scope a → IsDone p c scope b → IsDone p c scope (compare_by at op a b)
  compare_done scope at Less a b h g = less_done scope int_lt at Less a b (number_in (constant_in a)) (number_in (constant_in b)) (λ k. (k, h, g))
  compare_done scope at LessEqual a b h g = less_done scope int_le at LessEqual a b (number_in (constant_in a)) (number_in (constant_in b)) (λ k. (k, h, g))
  compare_done scope at Equal a b h g = equal_done scope at a b (constant_in a) (constant_in b) (λ k. (k, h, g))

  not_done : (scope : List Binding) (at : Place) (a : Tree) → IsDone p c scope a → IsDone p c scope (not_by at a (truth_in (constant_in a)))
  not_done scope at a h = by (truth_in (constant_in a)) refl
    where
      by : (o : Option Truth) → truth_in (constant_in a) ≡ o → IsDone p c scope (not_by at a o)
      by None e = (e, h)
      by (Some b) e = tt

  void_done : (scope : List Binding) (at : Place) (a : Tree) → IsDone p c scope a → IsDone p c scope (is_void_by at a (constant_in a))
  void_done scope at a h = by (constant_in a) refl
    where
      by : (o : Option Value) → constant_in a ≡ o → IsDone p c scope (is_void_by at a o)
      by None e = (e, h)
      by (Some b) e = tt

  taken_done : (scope : List Binding) (e part : Tree) (type all : Ty) → (same_type type all ≡ false → IsDone p c scope e) → IsDone p c scope part → IsDone p c scope (taken_by e part type all)
  taken_done scope e part type all k h = by (same_type type all) refl
    where
      by : (x : Truth) → same_type type all ≡ x → IsDone p c scope (if x then part else e)
      by true is = h
      by false is = k is

  if_done : (scope : List Binding) (at : Place) (e y n : Tree) → IsDone p c scope e → IsDone p c scope y → IsDone p c scope n → IsDone p c scope (if_by p c scope at e y n (truth_in (constant_in e)))
  if_done scope at e y n h g k = by (truth_in (constant_in e)) refl
    where
      kept_whole : (o : Option Truth) → truth_in (constant_in e) ≡ o → IsNotTaken (type_of p c scope y) (type_of p c scope n) (type_of p c scope (trees.If at e y n)) o → IsDone p c scope (trees.If at e y n)
      kept_whole o is kept = (subst (λ (x : Option Truth). IsNotTaken (type_of p c scope y) (type_of p c scope n) (type_of p c scope (trees.If at e y n)) x) (sym is) kept, h, g, k)

      by : (o : Option Truth) → truth_in (constant_in e) ≡ o → IsDone p c scope (if_by p c scope at e y n o)
      by None is = kept_whole None is tt
      by (Some true) is = taken_done scope (trees.If at e y n) y (type_of p c scope y) (type_of p c scope (trees.If at e y n)) (λ other. kept_whole (Some true) is other) g
      by (Some false) is = taken_done scope (trees.If at e y n) n (type_of p c scope n) (type_of p c scope (trees.If at e y n)) (λ other. kept_whole (Some false) is other) k

  dispatch_done : (scope : List Binding) (at : Place) (k : ClassId) (e : Tree) (name : List ℕ) (es : Trees) → class_of c (type_of p c scope e) ≡ k → IsDone p c scope e → AreDone p c scope es → IsDone p c scope (dispatch_by p k at e name es)
  dispatch_done scope at k e name es is h g = by (is_redefined p k name) refl
    where
      by : (x : Truth) → is_redefined p k name ≡ x → IsDone p c scope (if x then trees.Dispatch at e name es else trees.StaticDispatch at e (record { name = name_of p k; at = at }) name es)
      by true redefined = (ap (λ (j : ClassId). is_redefined p j name) is ∙ redefined, h, g)
      by false not_redefined = (h, g)

  mutual
    -- nothing is left to fold in a folded expression
    pub is_done : (e : Tree) (scope : List Binding) (type : Ty) → AreTypes p scope → HasType p c scope e type → IsDone p c scope (fold p c scope e)
    is_done (trees.Assign at name e) scope type types (declared, other, has, there, conforms) = is_done e scope type types has
    is_done (trees.Dispatch at e name es) scope type types (receiver, given, has, have, call) =
        let same = type_is p whole c within (fold p c scope e) scope receiver types (still_typed p whole c within e scope receiver types has) ∙ sym (type_is p whole c within e scope receiver types has) in
        dispatch_done scope at (class_of c (type_of p c scope e)) (fold p c scope e) name (fold_all p c scope es) (ap (class_of c) same) (is_done e scope receiver types has) (are_done es scope given types have)
    is_done (trees.StaticDispatch at e class name es) scope type types (receiver, given, k, has, have, denotes, conforms, call) = (is_done e scope receiver types has, are_done es scope given types have)
    is_done (trees.If at test y n) scope type types (t, u, has, has1, has2, join) =
        if_done scope at (fold p c scope test) (fold p c scope y) (fold p c scope n) (is_done test scope bool_type types has) (is_done y scope t types has1) (is_done n scope u types has2)
    is_done (trees.While at test body) scope type types (t, has, has1, is) = (is_done test scope bool_type types has, is_done body scope t types has1)
    is_done (trees.Block at es) scope type types h = items_done es scope object_type type types h
    is_done (trees.Let at name declared init e) scope type types (bound, other, denotes, has, has1) = (
      init_done init scope bound types has,
      subst (λ (t : Ty). IsDone p c (with_name name t scope) (fold p c (with_name name t scope) e)) (sym (meant_is p whole.table declared.name bound denotes))
          (is_done e (with_name name bound scope) type (denotes_type p whole declared.name bound denotes, types) has1),
    )
    is_done (trees.Case at e cs) scope type types (t, ts, has, have, different, join) = (is_done e scope t types has, branches_done cs scope ts types have)
    is_done (trees.IsVoid at e) scope type types (t, has, is) = void_done scope at (fold p c scope e) (is_done e scope t types has)
    is_done (trees.Not at e) scope type types (has, is) = not_done scope at (fold p c scope e) (is_done e scope bool_type types has)
    is_done (trees.Neg at e) scope type types (has, is) = neg_done scope at (fold p c scope e) (is_done e scope int_type types has)
    is_done (trees.Arith at op a b) scope type types (has, has1, is) = arith_done scope at op (fold p c scope a) (fold p c scope b) (is_done a scope int_type types has) (is_done b scope int_type types has1)
    is_done (trees.Compare at op a b) scope type types (t, u, has, has1, comparable, is) = compare_done scope at op (fold p c scope a) (fold p c scope b) (is_done a scope t types has) (is_done b scope u types has1)
    is_done _ scope type types h = tt

    are_done : (es : Trees) (scope : List Binding) (given : List Ty) → AreTypes p scope → HaveTypes p c scope es given → AreDone p c scope (fold_all p c scope es)
    are_done Last scope given types h = tt
    are_done (More e es) scope [] types h = absurd h
    are_done (More e es) scope (t ∷ ts) types h = (is_done e scope t types h.0, are_done es scope ts types h.1)

    items_done : (es : Trees) (scope : List Binding) (before type : Ty) → AreTypes p scope → HaveItems p c scope before es type → AreDone p c scope (fold_all p c scope es)
    items_done Last scope before type types h = tt
    items_done (More e es) scope before type types (t, has, have) = (is_done e scope t types has, items_done es scope t type types have)

    init_done : (o : MaybeTree) (scope : List Binding) (bound : Ty) → AreTypes p scope → HasInit p c scope bound o → IsMaybeDone p c scope (fold_maybe p c scope o)
    init_done Without scope bound types h = tt
    init_done (With e) scope bound types (t, has, conforms) = is_done e scope t types has

    branches_done : (cs : Cases) (scope : List Binding) (ts : List Ty) → AreTypes p scope → HaveBranches p c scope cs ts → AreCasesDone p c scope (fold_cases p c scope cs)
    branches_done NoCase scope ts types h = tt
    branches_done (CaseOf at name declared e cs) scope [] types h = absurd h
    branches_done (CaseOf at name declared e cs) scope (t ∷ ts) types ((d, other, denotes, has), have) = (
      subst (λ (x : Ty). IsDone p c (with_name name x scope) (fold p c (with_name name x scope) e)) (sym (meant_is p whole.table declared.name (IsClass d) denotes))
          (is_done e (with_name name (IsClass d) scope) t (denotes.0, types) has),
      branches_done cs scope ts types have,
    )
