-- The folded expression that the code computes (`shrunk` of `Shrinking.antt`) is that of `Folding.antt` if the original expression has no type errors.
use Rattle.std.proofs.Common.{◌≡◌, ℤ, ◌<◌, List, [], ◌∷◌, length, Option, Some, None, Bool as Truth, true, false, refl, sym, ◌∙◌, subst}
use Rattle.std.specs.Prelude.{int_lt, int_le, not, if◌then◌else◌, unwrap_or}
use Rattle.std.specs.Option.{option_map}
use Rattle.cool_syntax.specs.declared.place.Place.{Place}
use Rattle.cool_syntax.specs.declared.operator.ArithOp.{ArithOp}
use Rattle.cool_syntax.specs.declared.operator.CompareOp.{CompareOp}
use Rattle.cool_syntax.specs.declared.operator.CompareOp.TheVariants.{Less, LessEqual, Equal}
use Rattle.cool_syntax.specs.Tree.{Tree, Trees, MaybeTree, Cases, Last, More, Without, With, NoCase, CaseOf}
use Rattle.cool_syntax.specs.Tree as trees
use Rattle.cool_classes.specs.declared.class_id.ClassId.{ClassId}
use Rattle.cool_classes.specs.declared.class_id.Ty.{Ty}
use Rattle.cool_classes.specs.declared.class_id.Ty.TheVariants.{Class as IsClass}
use Rattle.cool_classes.specs.Chains.{Class}
use Rattle.cool_classes.specs.Tables.{IsWholeTable}
use Rattle.cool_rules.specs.Conformance.{class_of}
use Rattle.cool_rules.specs.Rules.{same_type, join_in}
use Rattle.cool_rules.specs.Scopes.{AreTypes, Binding}
use Rattle.cool_rules.specs.Typing.{bool_type, int_type, object_type, with_name, HasType, HaveTypes, HaveItems, HasInit, HaveBranches}
use Rattle.cool_rules.proofs.RulesOfTables.{meant_is}
use Rattle.cool_rules.proofs.RulesDecided.{denotes_type}
use Rattle.cool_meaning.specs.Values.{Value}
use Rattle.cool_meaning.specs.Evaluation.{same, is_void}
use Rattle.cool_rules.specs.StaticTypes.{type_of}
use Rattle.cool_fold.specs.Folding.{constant_in, number_in, truth_in, one_sort, number_or, arith_by, neg_by, less_by, equal_by, compare_by, not_by, is_void_by, if_by, dispatch_by, fold, fold_all, fold_maybe, fold_cases}
use Rattle.cool_fold.specs.Shrinking.{computed, negated, ordered, equated, compared, truth_or, taken, shrunk, shrunk_all, shrunk_maybe, shrunk_cases}
use Rattle.cool_rules.proofs.StaticTypesAreGiven.{type_is}
use Rattle.cool_fold.proofs.FoldedTypes.{still_typed}

-- The rows

arith_row : (at : Place) (op : ArithOp) (a b : Tree) (m n : Option ℤ) → number_or (trees.Arith at op a b) at (computed op m n) ≡ arith_by at op a b m n
arith_row at op a b None n = refl
arith_row at op a b (Some m) None = refl
arith_row at op a b (Some m) (Some n) = refl

neg_row : (at : Place) (a : Tree) (n : Option ℤ) → number_or (trees.Neg at a) at (negated n) ≡ neg_by at a n
neg_row at a None = refl
neg_row at a (Some n) = refl

less_row : (f : ℤ → ℤ → Truth) (at : Place) (op : CompareOp) (a b : Tree) (m n : Option ℤ) → truth_or (trees.Compare at op a b) at (ordered f m n) ≡ less_by f at op a b m n
less_row f at op a b None n = refl
less_row f at op a b (Some m) None = refl
less_row f at op a b (Some m) (Some n) = refl

equal_row : (at : Place) (a b : Tree) (v w : Option Value) → truth_or (trees.Compare at Equal a b) at (equated v w) ≡ equal_by at a b v w
equal_row at a b None w = refl
equal_row at a b (Some v) None = refl
equal_row at a b (Some v) (Some w) = by (one_sort v w)
  where
    by : (x : Truth) → truth_or (trees.Compare at Equal a b) at (if x then Some (same v w) else None) ≡ (if x then trees.Bool at (same v w) else trees.Compare at Equal a b)
    by true = refl
    by false = refl

compare_row : (at : Place) (op : CompareOp) (a b : Tree) → truth_or (trees.Compare at op a b) at (compared op (constant_in a) (constant_in b)) ≡ compare_by at op a b
compare_row at Less a b = less_row int_lt at Less a b (number_in (constant_in a)) (number_in (constant_in b))
compare_row at LessEqual a b = less_row int_le at LessEqual a b (number_in (constant_in a)) (number_in (constant_in b))
compare_row at Equal a b = equal_row at a b (constant_in a) (constant_in b)

not_row : (at : Place) (a : Tree) (o : Option Truth) → truth_or (trees.Not at a) at (option_map not o) ≡ not_by at a o
not_row at a None = refl
not_row at a (Some b) = refl

void_row : (at : Place) (a : Tree) (o : Option Value) → truth_or (trees.IsVoid at a) at (option_map is_void o) ≡ is_void_by at a o
void_row at a None = refl
void_row at a (Some v) = refl

part_row : (x : Truth) (part t : Tree) → unwrap_or (if x then Some part else None) t ≡ (if x then part else t)
part_row true part t = refl
part_row false part t = refl

module _ (p : List Class) (whole : IsWholeTable p) (c : ClassId) (within : c.0 < length p) where
  if_row : (scope : List Binding) (at : Place) (e y n : Tree) (t u : Ty) (o : Option Truth) → t ≡ type_of p c scope y → u ≡ type_of p c scope n
      → unwrap_or (taken o t u (join_in p c t u) y n) (trees.If at e y n) ≡ if_by p c scope at e y n o
  if_row scope at e y n t u None first second = refl
  if_row scope at e y n t u (Some true) first second =
      part_row (same_type t (join_in p c t u)) y (trees.If at e y n)
      ∙ (λ i. if same_type (first i) (join_in p c (first i) (second i)) then y else trees.If at e y n)
  if_row scope at e y n t u (Some false) first second =
      part_row (same_type u (join_in p c t u)) n (trees.If at e y n)
      ∙ (λ i. if same_type (second i) (join_in p c (first i) (second i)) then n else trees.If at e y n)

  -- the type of a part is that of what it is folded to
  type_kept : (e : Tree) (scope : List Binding) (type : Ty) → AreTypes p scope → HasType p c scope e type → type_of p c scope e ≡ type_of p c scope (fold p c scope e)
  type_kept e scope type types h = type_is p whole c within e scope type types h ∙ sym (type_is p whole c within (fold p c scope e) scope type types (still_typed p whole c within e scope type types h))

  mutual
    pub shrunk_is : (e : Tree) (scope : List Binding) (type : Ty) → AreTypes p scope → HasType p c scope e type → shrunk p c scope e ≡ fold p c scope e
    shrunk_is (trees.Assign at name e) scope type types (declared, other, has, there, conforms) = let a = shrunk_is e scope type types has in λ i. trees.Assign at name (a i)
    shrunk_is (trees.Dispatch at e name es) scope type types (receiver, given, has, have, call) =
        let a = shrunk_is e scope receiver types has in
        let b = all_shrunk es scope given types have in
        λ i. dispatch_by p (class_of c (type_of p c scope e)) at (a i) name (b i)
    shrunk_is (trees.StaticDispatch at e class name es) scope type types (receiver, given, k, has, have, denotes, conforms, call) =
        let a = shrunk_is e scope receiver types has in
        let b = all_shrunk es scope given types have in
        λ i. trees.StaticDispatch at (a i) class name (b i)
    shrunk_is (trees.If at test y n) scope type types (t, u, has, has1, has2, join) =
        let a = shrunk_is test scope bool_type types has in
        let b = shrunk_is y scope t types has1 in
        let d = shrunk_is n scope u types has2 in
        let v : Ty = type_of p c scope y in
        let w : Ty = type_of p c scope n in
        (λ i. unwrap_or (taken (truth_in (constant_in (a i))) v w (join_in p c v w) (b i) (d i)) (trees.If at (a i) (b i) (d i)))
        ∙ if_row scope at (fold p c scope test) (fold p c scope y) (fold p c scope n) v w (truth_in (constant_in (fold p c scope test))) (type_kept y scope t types has1) (type_kept n scope u types has2)
    shrunk_is (trees.While at test body) scope type types (t, has, has1, is) =
        let a = shrunk_is test scope bool_type types has in
        let b = shrunk_is body scope t types has1 in
        λ i. trees.While at (a i) (b i)
    shrunk_is (trees.Block at es) scope type types h = let a = items_shrunk es scope object_type type types h in λ i. trees.Block at (a i)
    shrunk_is (trees.Let at name declared init e) scope type types (bound, other, denotes, has, has1) =
        let a = init_shrunk init scope bound types has in
        let b = subst (λ (t : Ty). shrunk p c (with_name name t scope) e ≡ fold p c (with_name name t scope) e) (sym (meant_is p whole.table declared.name bound denotes))
        (shrunk_is e (with_name name bound scope) type (denotes_type p whole declared.name bound denotes, types) has1) in
        λ i. trees.Let at name declared (a i) (b i)
    shrunk_is (trees.Case at e cs) scope type types (t, ts, has, have, different, join) =
        let a = shrunk_is e scope t types has in
        let b = branches_shrunk cs scope ts types have in
        λ i. trees.Case at (a i) (b i)
    shrunk_is (trees.IsVoid at e) scope type types (t, has, is) =
        let a = shrunk_is e scope t types has in
        (λ i. truth_or (trees.IsVoid at (a i)) at (option_map is_void (constant_in (a i)))) ∙ void_row at (fold p c scope e) (constant_in (fold p c scope e))
    shrunk_is (trees.Not at e) scope type types (has, is) =
        let a = shrunk_is e scope bool_type types has in
        (λ i. truth_or (trees.Not at (a i)) at (option_map not (truth_in (constant_in (a i))))) ∙ not_row at (fold p c scope e) (truth_in (constant_in (fold p c scope e)))
    shrunk_is (trees.Neg at e) scope type types (has, is) =
        let a = shrunk_is e scope int_type types has in
        (λ i. number_or (trees.Neg at (a i)) at (negated (number_in (constant_in (a i))))) ∙ neg_row at (fold p c scope e) (number_in (constant_in (fold p c scope e)))
    shrunk_is (trees.Arith at op e f) scope type types (has, has1, is) =
        let a = shrunk_is e scope int_type types has in
        let b = shrunk_is f scope int_type types has1 in
        (λ i. number_or (trees.Arith at op (a i) (b i)) at (computed op (number_in (constant_in (a i))) (number_in (constant_in (b i)))))
        ∙ arith_row at op (fold p c scope e) (fold p c scope f) (number_in (constant_in (fold p c scope e))) (number_in (constant_in (fold p c scope f)))
    shrunk_is (trees.Compare at op e f) scope type types (t, u, has, has1, comparable, is) =
        let a = shrunk_is e scope t types has in
        let b = shrunk_is f scope u types has1 in
        (λ i. truth_or (trees.Compare at op (a i) (b i)) at (compared op (constant_in (a i)) (constant_in (b i)))) ∙ compare_row at op (fold p c scope e) (fold p c scope f)
    shrunk_is _ scope type types h = refl

    all_shrunk : (es : Trees) (scope : List Binding) (given : List Ty) → AreTypes p scope → HaveTypes p c scope es given → shrunk_all p c scope es ≡ fold_all p c scope es
    all_shrunk Last scope given types h = refl
    all_shrunk (More e es) scope [] types h = absurd h
    all_shrunk (More e es) scope (t ∷ ts) types h = let a = shrunk_is e scope t types h.0 in let b = all_shrunk es scope ts types h.1 in λ i. More (a i) (b i)

    items_shrunk : (es : Trees) (scope : List Binding) (before type : Ty) → AreTypes p scope → HaveItems p c scope before es type → shrunk_all p c scope es ≡ fold_all p c scope es
    items_shrunk Last scope before type types h = refl
    items_shrunk (More e es) scope before type types (t, has, have) = let a = shrunk_is e scope t types has in let b = items_shrunk es scope t type types have in λ i. More (a i) (b i)

    init_shrunk : (o : MaybeTree) (scope : List Binding) (bound : Ty) → AreTypes p scope → HasInit p c scope bound o → shrunk_maybe p c scope o ≡ fold_maybe p c scope o
    init_shrunk Without scope bound types h = refl
    init_shrunk (With e) scope bound types (t, has, conforms) = let a = shrunk_is e scope t types has in λ i. With (a i)

    branches_shrunk : (cs : Cases) (scope : List Binding) (ts : List Ty) → AreTypes p scope → HaveBranches p c scope cs ts → shrunk_cases p c scope cs ≡ fold_cases p c scope cs
    branches_shrunk NoCase scope ts types h = refl
    branches_shrunk (CaseOf at name declared e cs) scope [] types h = absurd h
    branches_shrunk (CaseOf at name declared e cs) scope (t ∷ ts) types ((d, other, denotes, has), have) =
        let a = subst (λ (x : Ty). shrunk p c (with_name name x scope) e ≡ fold p c (with_name name x scope) e) (sym (meant_is p whole.table declared.name (IsClass d) denotes))
        (shrunk_is e (with_name name (IsClass d) scope) t (denotes.0, types) has) in
        let b = branches_shrunk cs scope ts types have in
        λ i. CaseOf at name declared (a i) (b i)
