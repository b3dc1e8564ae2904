-- Constant folding keeps these properties of an expression: no empty block, no empty case, and only bytes in its strings.
use Rattle.std.proofs.Common.{◌≡◌, ℕ, ℤ, neg_ℤ, List, ◌++◌, Option, Some, None, Bool as Truth, true, false, refl, sym, ◌∙◌, subst}
use Rattle.std.specs.Prelude.{slice_get, option_map, int_lt, int_le, if◌then◌else◌, IfSome}
use Rattle.cool_syntax.specs.declared.place.Place.{Place}
use Rattle.cool_syntax.specs.declared.type_ref.TypeRef.{TypeRef}
use Rattle.cool_syntax.specs.declared.operator.ArithOp.{ArithOp}
use Rattle.cool_syntax.specs.declared.operator.CompareOp.{CompareOp}
use Rattle.cool_syntax.specs.declared.operator.CompareOp.TheVariants.{Less, LessEqual, Equal}
use Rattle.cool_syntax.specs.declared.file_tree.Feature.{Feature}
use Rattle.cool_syntax.specs.declared.file_tree.Feature.TheVariants.{Method, Attribute}
use Rattle.cool_syntax.specs.Tree.{Tree, Trees, MaybeTree, Cases, Last, More, Without, With, NoCase, CaseOf}
use Rattle.cool_syntax.specs.Tree as trees
use Rattle.cool_syntax.specs.WrittenTrees.{IsWritable, AreWritable, IsMaybeWritable, AreCasesWritable, IsValueWritable, IsFeatureWritable}
use Rattle.cool_classes.specs.declared.class_id.ClassId.{ClassId}
use Rattle.cool_classes.specs.declared.class_id.Ty.{Ty}
use Rattle.cool_classes.specs.Chains.{Class, name_of, features_of}
use Rattle.cool_rules.specs.NodeTypes.{own_scope}
use Rattle.cool_rules.specs.Conformance.{class_of}
use Rattle.cool_rules.specs.Rules.{same_type, type_meant}
use Rattle.cool_rules.specs.Scopes.{Binding}
use Rattle.cool_rules.specs.Typing.{with_name, formals_in_scope}
use Rattle.cool_meaning.specs.Values.{Value}
use Rattle.cool_meaning.specs.Evaluation.{same}
use Rattle.cool_meaning.specs.Numbers.{word_of}
use Rattle.cool_rules.specs.StaticTypes.{type_of}
use Rattle.cool_fold.specs.Folding.{constant_in, number_in, truth_in, one_sort, exactly, result, number_or, arith_by, neg_by, less_by, equal_by, compare_by, not_by, is_void_by, taken_by, if_by, is_redefined, dispatch_by, fold, fold_all, fold_maybe, fold_cases, fold_option, fold_feature, fold_table}
use Rattle.cool_fold.proofs.FoldedTables.{feature_at}
use Rattle.cool_simulation.specs.ByteStrings.{HasBytes, HaveBytes, MaybeHasBytes, CasesHaveBytes, FeatureHasBytes}

-- The rows

-- A property that holds for each constant, for a static dispatch if it holds for the dispatch, and for both parts of a conditional if it holds for that.
record HoldsInRows (P : Tree → Type 0) : Type 0 where
  number : (at : Place) (n : ℕ) → P (trees.Int at n)
  truth : (at : Place) (b : Truth) → P (trees.Bool at b)
  direct : (at : Place) (e : Tree) (class : TypeRef) (name : List ℕ) (es : Trees) → P (trees.Dispatch at e name es)
      → P (trees.StaticDispatch at e class name es)
  parts : (at : Place) (t y n : Tree) → P (trees.If at t y n) → P y × P n

module _ (P : Tree → Type 0) (h : HoldsInRows P) where
  number_row : (t : Tree) (at : Place) (o : Option ℤ) → P t → P (number_or t at o)
  number_row t at None g = g
  number_row t at (Some n) g = h.number at (word_of n)

  arith_row : (at : Place) (op : ArithOp) (a b : Tree) (m n : Option ℤ) → P (trees.Arith at op a b) → P (arith_by at op a b m n)
  arith_row at op a b None n g = g
  arith_row at op a b (Some m) None g = g
  arith_row at op a b (Some m) (Some n) g = number_row (trees.Arith at op a b) at (result op m n) g

  neg_row : (at : Place) (a : Tree) (n : Option ℤ) → P (trees.Neg at a) → P (neg_by at a n)
  neg_row at a None g = g
  neg_row at a (Some n) g = number_row (trees.Neg at a) at (exactly (neg_ℤ n)) g

  less_row : (f : ℤ → ℤ → Truth) (at : Place) (op : CompareOp) (a b : Tree) (m n : Option ℤ) → P (trees.Compare at op a b)
      → P (less_by f at op a b m n)
  less_row f at op a b None n g = g
  less_row f at op a b (Some m) None g = g
  less_row f at op a b (Some m) (Some n) g = h.truth at (f m n)

  equal_row : (at : Place) (a b : Tree) (v w : Option Value) → P (trees.Compare at Equal a b) → P (equal_by at a b v w)
  equal_row at a b None w g = g
  equal_row at a b (Some v) None g = g
  equal_row at a b (Some v) (Some w) g = by (one_sort v w)
    where
      by : (x : Truth) → P (if x then trees.Bool at (same v w) else trees.Compare at Equal a b)
      by true = h.truth at (same v w)
      by false = g

  compare_row : (at : Place) (op : CompareOp) (a b : Tree) → P (trees.Compare at op a b) → P (compare_by at op a b)
  compare_row at Less a b g = less_row int_lt at Less a b (number_in (constant_in a)) (number_in (constant_in b)) g
  compare_row at LessEqual a b g = less_row int_le at LessEqual a b (number_in (constant_in a)) (number_in (constant_in b)) g
  compare_row at Equal a b g = equal_row at a b (constant_in a) (constant_in b) g

  not_row : (at : Place) (a : Tree) (o : Option Truth) → P (trees.Not at a) → P (not_by at a o)
  not_row at a None g = g
  not_row at a (Some b) g = h.truth at _

  void_row : (at : Place) (a : Tree) (o : Option Value) → P (trees.IsVoid at a) → P (is_void_by at a o)
  void_row at a None g = g
  void_row at a (Some v) g = h.truth at _

  taken_row : (e part : Tree) (type whole : Ty) → P e → P part → P (taken_by e part type whole)
  taken_row e part type whole g k = by (same_type type whole)
    where
      by : (x : Truth) → P (if x then part else e)
      by true = k
      by false = g

  if_row : (p : List Class) (c : ClassId) (scope : List Binding) (at : Place) (t y n : Tree) (o : Option Truth) → P (trees.If at t y n)
      → P (if_by p c scope at t y n o)
  if_row p c scope at t y n None g = g
  if_row p c scope at t y n (Some true) g =
      taken_row (trees.If at t y n) y (type_of p c scope y) (type_of p c scope (trees.If at t y n)) g (h.parts at t y n g).0
  if_row p c scope at t y n (Some false) g =
      taken_row (trees.If at t y n) n (type_of p c scope n) (type_of p c scope (trees.If at t y n)) g (h.parts at t y n g).1

  dispatch_row : (p : List Class) (k : ClassId) (at : Place) (e : Tree) (name : List ℕ) (es : Trees) → P (trees.Dispatch at e name es)
      → P (dispatch_by p k at e name es)
  dispatch_row p k at e name es g = by (is_redefined p k name)
    where
      by : (x : Truth)
          → P (if x then trees.Dispatch at e name es else trees.StaticDispatch at e (record { name = name_of p k; at = at }) name es)
      by true = g
      by false = h.direct at e (record { name = name_of p k; at = at }) name es g

-- Expressions

writable_rows : HoldsInRows IsWritable
writable_rows = record {
  number = λ at n. tt;
  truth = λ at b. tt;
  direct = λ at e class name es g. g;
  parts = λ at t y n g. (g.1, g.2);
}

bytes_rows : HoldsInRows HasBytes
bytes_rows = record {
  number = λ at n. tt;
  truth = λ at b. tt;
  direct = λ at e class name es g. g;
  parts = λ at t y n g. (g.0.1, g.1);
}

module _ (p : List Class) (c : ClassId) where
  mutual
    folded_writable : (e : Tree) (scope : List Binding) → IsWritable e → IsWritable (fold p c scope e)
    folded_writable (trees.Id at name) scope h = tt
    folded_writable (trees.leaf at form) scope h = tt
    folded_writable (trees.Assign at name e) scope h = folded_writable e scope h
    folded_writable (trees.Dispatch at e name es) scope h =
        dispatch_row IsWritable writable_rows p (class_of c (type_of p c scope e)) at (fold p c scope e) name (fold_all p c scope es)
        (folded_writable e scope h.0, all_writable es scope h.1)
    folded_writable (trees.StaticDispatch at e class name es) scope h = (folded_writable e scope h.0, all_writable es scope h.1)
    folded_writable (trees.If at t y n) scope h =
        if_row IsWritable writable_rows p c scope at (fold p c scope t) (fold p c scope y) (fold p c scope n)
        (truth_in (constant_in (fold p c scope t)))
        (folded_writable t scope h.0, folded_writable y scope h.1, folded_writable n scope h.2)
    folded_writable (trees.While at t b) scope h = (folded_writable t scope h.0, folded_writable b scope h.1)
    folded_writable (trees.Block at Last) scope h = absurd h
    folded_writable (trees.Block at (More e es)) scope h = (folded_writable e scope h.0, all_writable es scope h.1)
    folded_writable (trees.Let at name declared o e) scope h =
        (maybe_writable o scope h.0, folded_writable e (with_name name (type_meant p declared.name) scope) h.1)
    folded_writable (trees.Case at e NoCase) scope h = absurd h
    folded_writable (trees.Case at e (CaseOf here name declared b cs)) scope h =
        (folded_writable e scope h.0, folded_writable b (with_name name (type_meant p declared.name) scope) h.1, cases_writable cs scope h.2)
    folded_writable (trees.IsVoid at e) scope h =
        void_row IsWritable writable_rows at (fold p c scope e) (constant_in (fold p c scope e)) (folded_writable e scope h)
    folded_writable (trees.Not at e) scope h =
        not_row IsWritable writable_rows at (fold p c scope e) (truth_in (constant_in (fold p c scope e))) (folded_writable e scope h)
    folded_writable (trees.Neg at e) scope h =
        neg_row IsWritable writable_rows at (fold p c scope e) (number_in (constant_in (fold p c scope e))) (folded_writable e scope h)
    folded_writable (trees.Arith at op a b) scope h =
        arith_row IsWritable writable_rows at op (fold p c scope a) (fold p c scope b) (number_in (constant_in (fold p c scope a)))
        (number_in (constant_in (fold p c scope b))) (folded_writable a scope h.0, folded_writable b scope h.1)
    folded_writable (trees.Compare at op a b) scope h =
        compare_row IsWritable writable_rows at op (fold p c scope a) (fold p c scope b) (folded_writable a scope h.0, folded_writable b scope h.1)

    all_writable : (es : Trees) (scope : List Binding) → AreWritable es → AreWritable (fold_all p c scope es)
    all_writable Last scope h = tt
    all_writable (More e es) scope h = (folded_writable e scope h.0, all_writable es scope h.1)

    maybe_writable : (o : MaybeTree) (scope : List Binding) → IsMaybeWritable o → IsMaybeWritable (fold_maybe p c scope o)
    maybe_writable Without scope h = tt
    maybe_writable (With e) scope h = folded_writable e scope h

    cases_writable : (cs : Cases) (scope : List Binding) → AreCasesWritable cs → AreCasesWritable (fold_cases p c scope cs)
    cases_writable NoCase scope h = tt
    cases_writable (CaseOf at name declared e cs) scope h =
        (folded_writable e (with_name name (type_meant p declared.name) scope) h.0, cases_writable cs scope h.1)

  mutual
    folded_bytes : (e : Tree) (scope : List Binding) → HasBytes e → HasBytes (fold p c scope e)
    folded_bytes (trees.Str at bytes) scope h = h
    folded_bytes (trees.leaf at form) scope h = tt
    folded_bytes (trees.Assign at name e) scope h = folded_bytes e scope h
    folded_bytes (trees.Dispatch at e name es) scope h =
        dispatch_row HasBytes bytes_rows p (class_of c (type_of p c scope e)) at (fold p c scope e) name (fold_all p c scope es)
        (folded_bytes e scope h.0, all_bytes es scope h.1)
    folded_bytes (trees.StaticDispatch at e class name es) scope h = (folded_bytes e scope h.0, all_bytes es scope h.1)
    folded_bytes (trees.If at t y n) scope h =
        if_row HasBytes bytes_rows p c scope at (fold p c scope t) (fold p c scope y) (fold p c scope n)
        (truth_in (constant_in (fold p c scope t)))
        ((folded_bytes t scope h.0.0, folded_bytes y scope h.0.1), folded_bytes n scope h.1)
    folded_bytes (trees.While at t b) scope h = (folded_bytes t scope h.0, folded_bytes b scope h.1)
    folded_bytes (trees.Block at es) scope h = all_bytes es scope h
    folded_bytes (trees.Let at name declared o e) scope h =
        (maybe_bytes o scope h.0, folded_bytes e (with_name name (type_meant p declared.name) scope) h.1)
    folded_bytes (trees.Case at e cs) scope h = (folded_bytes e scope h.0, cases_bytes cs scope h.1)
    folded_bytes (trees.IsVoid at e) scope h =
        void_row HasBytes bytes_rows at (fold p c scope e) (constant_in (fold p c scope e)) (folded_bytes e scope h)
    folded_bytes (trees.Not at e) scope h =
        not_row HasBytes bytes_rows at (fold p c scope e) (truth_in (constant_in (fold p c scope e))) (folded_bytes e scope h)
    folded_bytes (trees.Neg at e) scope h =
        neg_row HasBytes bytes_rows at (fold p c scope e) (number_in (constant_in (fold p c scope e))) (folded_bytes e scope h)
    folded_bytes (trees.Arith at op a b) scope h =
        arith_row HasBytes bytes_rows at op (fold p c scope a) (fold p c scope b) (number_in (constant_in (fold p c scope a)))
        (number_in (constant_in (fold p c scope b))) (folded_bytes a scope h.0, folded_bytes b scope h.1)
    folded_bytes (trees.Compare at op a b) scope h =
        compare_row HasBytes bytes_rows at op (fold p c scope a) (fold p c scope b) (folded_bytes a scope h.0, folded_bytes b scope h.1)

    all_bytes : (es : Trees) (scope : List Binding) → HaveBytes es → HaveBytes (fold_all p c scope es)
    all_bytes Last scope h = tt
    all_bytes (More e es) scope h = (folded_bytes e scope h.0, all_bytes es scope h.1)

    maybe_bytes : (o : MaybeTree) (scope : List Binding) → MaybeHasBytes o → MaybeHasBytes (fold_maybe p c scope o)
    maybe_bytes Without scope h = tt
    maybe_bytes (With e) scope h = folded_bytes e scope h

    cases_bytes : (cs : Cases) (scope : List Binding) → CasesHaveBytes cs → CasesHaveBytes (fold_cases p c scope cs)
    cases_bytes NoCase scope h = tt
    cases_bytes (CaseOf at name declared e cs) scope h =
        (folded_bytes e (with_name name (type_meant p declared.name) scope) h.0, cases_bytes cs scope h.1)

-- Features

feature_writable : (p : List Class) (c : ClassId) (x : Feature) → IsFeatureWritable x → IsFeatureWritable (fold_feature p c x)
feature_writable p c (Method m) h = folded_writable p c m.body (formals_in_scope p m.formals ++ own_scope p c) h
feature_writable p c (Attribute a) h = by a.init h
  where
    by : (o : Option Tree) → IsValueWritable o → IsValueWritable (fold_option p c o)
    by None h = tt
    by (Some e) h = folded_writable p c e (own_scope p c) h

feature_bytes : (p : List Class) (c : ClassId) (x : Feature) → FeatureHasBytes x → FeatureHasBytes (fold_feature p c x)
feature_bytes p c (Method m) h = folded_bytes p c m.body (formals_in_scope p m.formals ++ own_scope p c) h
feature_bytes p c (Attribute a) h = by a.init h
  where
    by : (o : Option Tree) → IfSome o HasBytes → IfSome (fold_option p c o) HasBytes
    by None h = tt
    by (Some e) h = folded_bytes p c e (own_scope p c) h

-- this holds of each feature of a table
abbrev pub OfEach : (Feature → Type 0) → List Class → Type 0
OfEach P p = (c : ClassId) (k : ℕ) (x : Feature) → slice_get (features_of p c) k ≡ Some x → P x

of_each_folded : (P : Feature → Type 0) (p : List Class) → ((c : ClassId) (x : Feature) → P x → P (fold_feature p c x)) → OfEach P p
    → OfEach P (fold_table p)
of_each_folded P p keeps all c k x there = by (slice_get (features_of p c) k) refl (sym (feature_at p c k) ∙ there)
  where
    by : (o : Option Feature) → slice_get (features_of p c) k ≡ o → option_map (fold_feature p c) o ≡ Some x → P x
    by None e q = absurd cc
    by (Some y) e q = let same : fold_feature p c y ≡ x = cc in subst P same (keeps c y (all c k y e))

pub each_writable : (p : List Class) → OfEach IsFeatureWritable p → OfEach IsFeatureWritable (fold_table p)
each_writable p = of_each_folded IsFeatureWritable p (feature_writable p)

pub each_has_bytes : (p : List Class) → OfEach FeatureHasBytes p → OfEach FeatureHasBytes (fold_table p)
each_has_bytes p = of_each_folded FeatureHasBytes p (feature_bytes p)
