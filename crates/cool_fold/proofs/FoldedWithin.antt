-- A folded expression is within the limits: its source locations are in the files, its names are identifiers, its numbers have 32 bits, and its strings are
-- strings of the source.
use Rattle.std.proofs.Common.{◌≡◌, ℕ, ◌<◌, ◌^◌, ℤ, pos, negsuc, neg_ℤ, List, [], ◌∷◌, length, Option, Some, None, Bool as Truth, true, false, refl, sym, subst, arith}
use Rattle.std.specs.Prelude.{int_lt, int_le, int_div, ◌+ℤ◌, ◌-ℤ◌, ◌*ℤ◌, if◌then◌else◌}
use Rattle.cool_syntax.specs.declared.place.Place.{Place}
use Rattle.cool_syntax.specs.declared.operator.ArithOp.{ArithOp}
use Rattle.cool_syntax.specs.declared.operator.ArithOp.TheVariants.{Add, Sub, Mul, Div}
use Rattle.cool_syntax.specs.declared.operator.CompareOp.{CompareOp}
use Rattle.cool_syntax.specs.declared.operator.CompareOp.TheVariants.{Less, LessEqual, Equal}
use Rattle.cool_syntax.specs.TokenFacts.{IsPlaced}
use Rattle.cool_syntax.specs.Tree.{Tree, Trees, MaybeTree, Cases, Last, More, Without, With, NoCase, CaseOf}
use Rattle.cool_syntax.specs.Tree as trees
use Rattle.cool_syntax.specs.TreesWithinLimits.{IsTypeName, IsTreeWithin, AreTreesWithin, IsMaybeWithin, AreCasesWithin}
use Rattle.cool_classes.specs.declared.class_id.ClassId.{ClassId}
use Rattle.cool_classes.specs.declared.class_id.Ty.{Ty}
use Rattle.cool_classes.specs.declared.class_id.Ty.TheVariants.{Class as IsClass}
use Rattle.cool_classes.specs.Chains.{Class, name_of}
use Rattle.cool_classes.specs.Tables.{IsWholeTable}
use Rattle.cool_rules.specs.Conformance.{class_of}
use Rattle.cool_rules.specs.Rules.{same_type}
use Rattle.cool_rules.specs.Scopes.{AreTypes, Binding}
use Rattle.cool_rules.specs.Typing.{bool_type, int_type, object_type, with_name, HasType, HaveTypes, HaveItems, HasInit, HaveBranches}
use Rattle.cool_rules.proofs.RulesOfTables.{meant_is}
use Rattle.cool_rules.proofs.RulesDecided.{denotes_type}
use Rattle.cool_rules.proofs.TypesOfMethods.{expression_type}
use Rattle.cool_meaning.specs.Values.{Value}
use Rattle.cool_meaning.specs.Numbers.{fits, is_zero, word_of}
use Rattle.cool_meaning.specs.Evaluation.{same}
use Rattle.cool_rules.specs.StaticTypes.{type_of}
use Rattle.cool_fold.specs.Folding.{constant_in, number_in, truth_in, one_sort, exactly, result, number_or, arith_by, neg_by, less_by, equal_by, compare_by, not_by, is_void_by, taken_by, if_by, is_redefined, dispatch_by, fold, fold_all, fold_maybe, fold_cases}
use Rattle.cool_rules.proofs.StaticTypesAreGiven.{type_is, class_there}
use Rattle.std.proofs.lemmas.Bool.{ltb-true}

-- The rows

-- a number of 32 bits is a word
word_small : (n : ℤ) → fits n ≡ true → word_of n < 2 ^ 32
word_small (pos n) e = let low = ltb-true n 2147483648 e in omega arith
word_small (negsuc n) e = omega arith

module _ (files : ℕ) where
  number_within : (t : Tree) (at : Place) (n : ℤ) → IsPlaced files at → IsTreeWithin files t → IsTreeWithin files (number_or t at (exactly n))
  number_within t at n placed h = by (fits n) refl
    where
      by : (x : Truth) → fits n ≡ x → IsTreeWithin files (number_or t at (if x then Some n else None))
      by true e = (placed, word_small n e)
      by false e = h

  result_within : (at : Place) (op : ArithOp) (a b : Tree) (m n : ℤ) → IsTreeWithin files (trees.Arith at op a b)
      → IsTreeWithin files (number_or (trees.Arith at op a b) at (result op m n))
  result_within at Add a b m n h = number_within (trees.Arith at Add a b) at (m +ℤ n) h.0 h
  result_within at Sub a b m n h = number_within (trees.Arith at Sub a b) at (m -ℤ n) h.0 h
  result_within at Mul a b m n h = number_within (trees.Arith at Mul a b) at (m *ℤ n) h.0 h
  result_within at Div a b m n h = by (is_zero n)
    where
      by : (x : Truth) → IsTreeWithin files (number_or (trees.Arith at Div a b) at (if x then None else exactly (int_div m n)))
      by true = h
      by false = number_within (trees.Arith at Div a b) at (int_div m n) h.0 h

  arith_within : (at : Place) (op : ArithOp) (a b : Tree) (m n : Option ℤ) → IsTreeWithin files (trees.Arith at op a b)
      → IsTreeWithin files (arith_by at op a b m n)
  arith_within at op a b None n h = h
  arith_within at op a b (Some m) None h = h
  arith_within at op a b (Some m) (Some n) h = result_within at op a b m n h

  neg_within : (at : Place) (a : Tree) (n : Option ℤ) → IsTreeWithin files (trees.Neg at a) → IsTreeWithin files (neg_by at a n)
  neg_within at a None h = h
  neg_within at a (Some n) h = number_within (trees.Neg at a) at (neg_ℤ n) h.0 h

  less_within : (f : ℤ → ℤ → Truth) (at : Place) (op : CompareOp) (a b : Tree) (m n : Option ℤ) → IsTreeWithin files (trees.Compare at op a b)
      → IsTreeWithin files (less_by f at op a b m n)
  less_within f at op a b None n h = h
  less_within f at op a b (Some m) None h = h
  less_within f at op a b (Some m) (Some n) h = h.0

  equal_within : (at : Place) (a b : Tree) (v w : Option Value) → IsTreeWithin files (trees.Compare at Equal a b)
      → IsTreeWithin files (equal_by at a b v w)
  equal_within at a b None w h = h
  equal_within at a b (Some v) None h = h
  equal_within at a b (Some v) (Some w) h = by (one_sort v w)
    where
      by : (x : Truth) → IsTreeWithin files (if x then trees.Bool at (same v w) else trees.Compare at Equal a b)
      by true = h.0
      by false = h

  compare_within : (at : Place) (op : CompareOp) (a b : Tree) → IsTreeWithin files (trees.Compare at op a b)
      → IsTreeWithin files (compare_by at op a b)
  compare_within at Less a b h = less_within int_lt at Less a b (number_in (constant_in a)) (number_in (constant_in b)) h
  compare_within at LessEqual a b h = less_within int_le at LessEqual a b (number_in (constant_in a)) (number_in (constant_in b)) h
  compare_within at Equal a b h = equal_within at a b (constant_in a) (constant_in b) h

  not_within : (at : Place) (a : Tree) (o : Option Truth) → IsTreeWithin files (trees.Not at a) → IsTreeWithin files (not_by at a o)
  not_within at a None h = h
  not_within at a (Some b) h = h.0

  void_within : (at : Place) (a : Tree) (o : Option Value) → IsTreeWithin files (trees.IsVoid at a) → IsTreeWithin files (is_void_by at a o)
  void_within at a None h = h
  void_within at a (Some v) h = h.0

  taken_within : (e part : Tree) (type all : Ty) → IsTreeWithin files e → IsTreeWithin files part
      → IsTreeWithin files (taken_by e part type all)
  taken_within e part type all h g = by (same_type type all)
    where
      by : (x : Truth) → IsTreeWithin files (if x then part else e)
      by true = g
      by false = h

module _ (files : ℕ) (p : List Class) (whole : IsWholeTable p) (names : (k : ClassId) → k.0 < length p → IsTypeName (name_of p k)) (c : ClassId)
    (within : c.0 < length p) where
  if_within : (scope : List Binding) (at : Place) (e y n : Tree) (o : Option Truth) → IsTreeWithin files (trees.If at e y n)
      → IsTreeWithin files (if_by p c scope at e y n o)
  if_within scope at e y n None h = h
  if_within scope at e y n (Some true) h =
      taken_within files (trees.If at e y n) y (type_of p c scope y) (type_of p c scope (trees.If at e y n)) h h.2
  if_within scope at e y n (Some false) h =
      taken_within files (trees.If at e y n) n (type_of p c scope n) (type_of p c scope (trees.If at e y n)) h h.3

  dispatch_within : (k : ClassId) (at : Place) (e : Tree) (name : List ℕ) (es : Trees) → k.0 < length p
      → IsTreeWithin files (trees.Dispatch at e name es) → IsTreeWithin files (dispatch_by p k at e name es)
  dispatch_within k at e name es inside h = by (is_redefined p k name)
    where
      by : (x : Truth)
          → IsTreeWithin files
          (if x then trees.Dispatch at e name es else trees.StaticDispatch at e (record { name = name_of p k; at = at }) name es)
      by true = h
      by false = (h.0, h.1, (names k inside, h.0), h.2, h.3)

  mutual
    pub folded_within : (e : Tree) (scope : List Binding) (type : Ty) → AreTypes p scope → HasType p c scope e type → IsTreeWithin files e
        → IsTreeWithin files (fold p c scope e)
    folded_within (trees.Assign at name e) scope type types (declared, other, has, there, conforms) (placed, named, h) =
        (placed, named, folded_within e scope type types has h)
    folded_within (trees.Dispatch at e name es) scope type types (receiver, given, has, have, call) (placed, h, named, hs) =
        let inside : (class_of c (type_of p c scope e)).0 < length p =
        subst (λ (t : Ty). (class_of c t).0 < length p) (sym (type_is p whole c within e scope receiver types has))
        (class_there p whole c within receiver (expression_type p whole c within e scope receiver types has)) in
        dispatch_within (class_of c (type_of p c scope e)) at (fold p c scope e) name (fold_all p c scope es) inside
        (placed, folded_within e scope receiver types has h, named, all_within es scope given types have hs)
    folded_within (trees.StaticDispatch at e class name es) scope type types (receiver, given, k, has, have, denotes, conforms, call)
        (placed, h, class_named, named, hs) =
        (placed, folded_within e scope receiver types has h, class_named, named, all_within es scope given types have hs)
    folded_within (trees.If at test y n) scope type types (t, u, has, has1, has2, join) (placed, h, g, k) =
        if_within scope at (fold p c scope test) (fold p c scope y) (fold p c scope n) (truth_in (constant_in (fold p c scope test)))
        (placed, folded_within test scope bool_type types has h, folded_within y scope t types has1 g, folded_within n scope u types has2 k)
    folded_within (trees.While at test body) scope type types (t, has, has1, is) (placed, h, g) =
        (placed, folded_within test scope bool_type types has h, folded_within body scope t types has1 g)
    folded_within (trees.Block at es) scope type types t (placed, hs) = (placed, items_within es scope object_type type types t hs)
    folded_within (trees.Let at name declared init e) scope type types (bound, other, denotes, has, has1) (placed, named, typed, h, g) = (
      placed,
      named,
      typed,
      init_within init scope bound types has h,
      subst (λ (t : Ty). IsTreeWithin files (fold p c (with_name name t scope) e)) (sym (meant_is p whole.table declared.name bound denotes))
          (folded_within e (with_name name bound scope) type (denotes_type p whole declared.name bound denotes, types) has1 g),
    )
    folded_within (trees.Case at e cs) scope type types (t, ts, has, have, different, join) (placed, h, hs) =
        (placed, folded_within e scope t types has h, branches_within cs scope ts types have hs)
    folded_within (trees.IsVoid at e) scope type types (t, has, is) (placed, h) =
        void_within files at (fold p c scope e) (constant_in (fold p c scope e)) (placed, folded_within e scope t types has h)
    folded_within (trees.Not at e) scope type types (has, is) (placed, h) =
        not_within files at (fold p c scope e) (truth_in (constant_in (fold p c scope e))) (placed, folded_within e scope bool_type types has h)
    folded_within (trees.Neg at e) scope type types (has, is) (placed, h) =
        neg_within files at (fold p c scope e) (number_in (constant_in (fold p c scope e))) (placed, folded_within e scope int_type types has h)
    folded_within (trees.Arith at op a b) scope type types (has, has1, is) (placed, h, g) =
        arith_within files at op (fold p c scope a) (fold p c scope b) (number_in (constant_in (fold p c scope a)))
        (number_in (constant_in (fold p c scope b)))
        (placed, folded_within a scope int_type types has h, folded_within b scope int_type types has1 g)
    folded_within (trees.Compare at op a b) scope type types (t, u, has, has1, comparable, is) (placed, h, g) =
        compare_within files at op (fold p c scope a) (fold p c scope b)
        (placed, folded_within a scope t types has h, folded_within b scope u types has1 g)
    folded_within _ scope type types t h = h

    all_within : (es : Trees) (scope : List Binding) (given : List Ty) → AreTypes p scope → HaveTypes p c scope es given → AreTreesWithin files es
        → AreTreesWithin files (fold_all p c scope es)
    all_within Last scope given types have hs = tt
    all_within (More e es) scope [] types have hs = absurd have
    all_within (More e es) scope (t ∷ ts) types (has, have) (h, hs) = (folded_within e scope t types has h, all_within es scope ts types have hs)

    items_within : (es : Trees) (scope : List Binding) (before type : Ty) → AreTypes p scope → HaveItems p c scope before es type
        → AreTreesWithin files es → AreTreesWithin files (fold_all p c scope es)
    items_within Last scope before type types have hs = tt
    items_within (More e es) scope before type types (t, has, have) (h, hs) =
        (folded_within e scope t types has h, items_within es scope t type types have hs)

    init_within : (o : MaybeTree) (scope : List Binding) (bound : Ty) → AreTypes p scope → HasInit p c scope bound o → IsMaybeWithin files o
        → IsMaybeWithin files (fold_maybe p c scope o)
    init_within Without scope bound types has h = tt
    init_within (With e) scope bound types (t, has, conforms) h = folded_within e scope t types has h

    branches_within : (cs : Cases) (scope : List Binding) (ts : List Ty) → AreTypes p scope → HaveBranches p c scope cs ts
        → AreCasesWithin files cs → AreCasesWithin files (fold_cases p c scope cs)
    branches_within NoCase scope ts types have hs = tt
    branches_within (CaseOf at name declared e cs) scope [] types have hs = absurd have
    branches_within (CaseOf at name declared e cs) scope (t ∷ ts) types ((d, other, denotes, has), have) (placed, named, typed, h, hs) = (
      placed,
      named,
      typed,
      subst (λ (x : Ty). IsTreeWithin files (fold p c (with_name name x scope) e)) (sym (meant_is p whole.table declared.name (IsClass d) denotes))
          (folded_within e (with_name name (IsClass d) scope) t (denotes.0, types) has h),
      branches_within cs scope ts types have hs,
    )
