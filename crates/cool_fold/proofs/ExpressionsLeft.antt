-- Lemmas for the loops of `add_folded` and `folded_expressions`: the expressions of one feature or class come before those of the features or classes that are
-- left.
use Rattle.std.proofs.Common.{◌≡◌, ℕ, zero, suc, ◌+◌, ◌≤◌, ◌<◌, List, [], ◌∷◌, ◌++◌, length, drop, Option, Some, ap, sym, ◌∙◌, refl, subst, append_assoc, arith}
use Rattle.std.specs.Prelude.{slice_get, option_map, unwrap_or}
use Rattle.std.proofs.Math.ListN.{drop_of_length-le}
use Rattle.std.proofs.lemmas.List.{append-nil, length-map}
use Rattle.std.proofs.lemmas.Option.{none-some}
use native.Mathlib.Numerals.{add-one}
use Rattle.cool_syntax.specs.declared.file_tree.Feature.{Feature}
use Rattle.cool_syntax.specs.Tree.{Tree}
use Rattle.cool_classes.specs.declared.class_id.ClassId.{ClassId}
use Rattle.cool_classes.specs.Chains.{Class, class_number, features_of}
use Rattle.cool_fold.specs.declared.program.Expression.{Expression}
use Rattle.cool_fold.specs.Expressions.{expression_at, expressions_of, expressions_from}
use Rattle.cool_rules.specs.NodeScopes.{expression_of}
use Rattle.cool_fold.specs.Folding.{fold_feature, fold_table}
use Rattle.cool_fold.proofs.FoldedTables.{folded_shape, features_folded, feature_at}
use Rattle.lists.proofs.ItemsAt.{there_is}

-- Classes

class_first : (n : ℕ) (ds : List Class) (k : ℕ) → k < length ds
    → expressions_from n (drop k ds)
    ≡ expressions_of (class_number n) 0 (features_of ds (class_number k)) ++ expressions_from (n + 1) (drop (suc k) ds)
class_first n [] k within = absurd (omega arith)
class_first n (d ∷ ds) zero within = refl
class_first n (d ∷ ds) (suc k) within = class_first n ds k (omega arith)

-- the expressions of a class are found before those of the classes after it
pub classes_later : (ds : List Class) (before : List Expression) (k : ℕ) → k < length ds
    → (before ++ expressions_of (class_number k) 0 (features_of ds (class_number k))) ++ expressions_from (k + 1) (drop (k + 1) ds)
    ≡ before ++ expressions_from k (drop k ds)
classes_later ds before k within =
    let here = expressions_of (class_number k) 0 (features_of ds (class_number k)) in
    let first : expressions_from k (drop k ds) ≡ here ++ expressions_from (k + 1) (drop (k + 1) ds) =
    subst (λ (j : ℕ). expressions_from k (drop k ds) ≡ here ++ expressions_from (k + 1) (drop j ds)) (sym (add-one k)) (class_first k ds k within) in
    append_assoc before here (expressions_from (k + 1) (drop (k + 1) ds))
    ∙ sym (ap (λ (es : List Expression). before ++ es) first)

-- if nothing is left, the expressions found are all
pub nothing_after : {A : Type 0} (found left all : List A) → found ++ left ≡ all → left ≡ [] → found ≡ all
nothing_after found left all is none = sym (append-nil found) ∙ (sym (ap (λ xs. found ++ xs) none) ∙ is)

pub no_class_left : (p : List Class) (found all : List Expression) (k : ℕ) → length p ≤ k → found ++ expressions_from k (drop k (fold_table p)) ≡ all
    → found ≡ all
no_class_left p found all k past is =
    nothing_after found (expressions_from k (drop k (fold_table p))) all is
    (ap (expressions_from k) (drop_of_length-le (fold_table p) (let same = (folded_shape p).count in omega arith)))

-- Features of a class

feature_first : (c : ClassId) (n : ℕ) (fs : List Feature) (k : ℕ) (x : Feature) → slice_get fs k ≡ Some x
    → expressions_of c n (drop k fs) ≡ expression_at c n (expression_of x) ++ expressions_of c (n + 1) (drop (suc k) fs)
feature_first c n [] k x is = absurd (none-some x is)
feature_first c n (y ∷ fs) zero x is =
    ap (λ (o : Option Feature). expression_at c n (expression_of (unwrap_or o x)) ++ expressions_of c (n + 1) fs) is
feature_first c n (y ∷ fs) (suc k) x is = feature_first c n fs k x is

module _ (p : List Class) (c : ClassId) where
  -- the folded expression of a feature is found before those of the features after it
  pub features_later : (before : List Expression) (k : ℕ) (o : Option Tree) → k < length (features_of p c)
      → ((x : Feature) → slice_get (features_of p c) k ≡ Some x → o ≡ expression_of (fold_feature p c x))
      → (before ++ expression_at c k o) ++ expressions_of c (k + 1) (drop (k + 1) (features_of (fold_table p) c))
      ≡ before ++ expressions_of c k (drop k (features_of (fold_table p) c))
  features_later before k o within each =
      let (x, there) = there_is (features_of p c) k within in
      let fs = features_of (fold_table p) c in
      let folded : slice_get fs k ≡ Some (fold_feature p c x) = feature_at p c k ∙ ap (option_map (fold_feature p c)) there in
      let y = expression_of (fold_feature p c x) in
      let first : expressions_of c k (drop k fs) ≡ expression_at c k y ++ expressions_of c (k + 1) (drop (k + 1) fs) =
      subst (λ (j : ℕ). expressions_of c k (drop k fs) ≡ expression_at c k y ++ expressions_of c (k + 1) (drop j fs)) (sym (add-one k))
      (feature_first c k fs k (fold_feature p c x) folded) in
      append_assoc before (expression_at c k o) (expressions_of c (k + 1) (drop (k + 1) fs))
      ∙ (ap (λ (e : Option Tree). before ++ (expression_at c k e ++ expressions_of c (k + 1) (drop (k + 1) fs))) (each x there)
      ∙ sym (ap (λ (es : List Expression). before ++ es) first))

  pub no_feature_left : (found all : List Expression) (k : ℕ) → length (features_of p c) ≤ k
      → found ++ expressions_of c k (drop k (features_of (fold_table p) c)) ≡ all → found ≡ all
  no_feature_left found all k past is =
      let same : length (features_of (fold_table p) c) ≡ length (features_of p c) =
      ap length (features_folded p c) ∙ length-map (features_of p c) (fold_feature p c) in
      nothing_after found (expressions_of c k (drop k (features_of (fold_table p) c))) all is
      (ap (expressions_of c k) (drop_of_length-le (features_of (fold_table p) c) (omega arith)))
