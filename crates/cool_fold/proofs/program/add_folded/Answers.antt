-- `add_folded` adds the folded expressions of the features of a class and returns the types of their nodes. Each step of its loop handles one feature, which
-- may have no expression.
use Rattle.std.proofs.Common.{◌≡◌, ◌+◌, ◌<◌, ◌++◌, ◌∙◌, List, length, drop, Option, ap, sym, subst, arith, refl}
use Rattle.std.proofs.lemmas.List.{append-nil}
use Rattle.cool_syntax.specs.declared.file_tree.Feature.{Feature}
use Rattle.cool_syntax.specs.Tree.{Tree}
use Rattle.cool_classes.specs.declared.class_id.Ty.{Ty}
use Rattle.cool_classes.specs.Chains.{Class, features_of}
use Rattle.cool_rules.specs.NodeTypes.{features_types}
use Rattle.cool_fold.specs.declared.program.Expression.{Expression}
use Rattle.cool_fold.specs.Expressions.{expression_at, expressions_of}
use Rattle.cool_fold.specs.Folding.{fold_table}
use Rattle.cool_fold.proofs.ExpressionsLeft.{features_later, no_feature_left}
use Rattle.cool_fold.proofs.FoldedColumns.{column_later, no_column_left}
use Rattle.cool_fold.proofs.program.add_folded.Goals as goal
use Rattle.cool_fold.proofs.program.add_folded.Goals.{in-Some+in_ok-push-2, in_default}

pub loop-feature-init : goal.loop-feature-init
loop-feature-init c =
    let q = fold_table c.args.p.now in
    record {
      expressions = refl;
      types = ap (λ (ts : List (List Ty)). ts ++ features_types q c.args.class (features_of q c.args.class)) c.new-columns.ensures.items;
    }

pub loop-feature-preserved : goal.loop-feature-preserved
loop-feature-preserved c =
    let p = c.args.p.now in
    let class = c.args.class in
    let k = c.loop-feature.feature in
    let before = c.loop-feature.all.items in
    let columns = c.loop-feature.columns.items in
    let found = c.in_ok-body.field-0.body in
    let column = c.in_ok-body.field-0.types in
    let fs = features_of (fold_table p) class in
    let rest = expressions_of class (k + 1) (drop (k + 1) fs) in
    let left = features_types (fold_table p) class (drop (k + 1) fs) in
    let same : c.features.result.now ≡ features_of p class =
    c.features.ensures.features ∙ ap (λ (q : List Class). features_of q class) c.table.ensures.table in
    let within = subst (λ (gs : List Feature). k < length gs) same c.loop-feature-test.true in
    let later = features_later p class before k found within c.in_ok-body.ensures.body in
    let typed = column_later p class columns k column within c.in_ok-body.ensures.types in
    let added : c.match-body-2.all.items ≡ before ++ expression_at class k found =
    elim c.match-body-2.branch [
      | in-Some+in_ok-push-2 w ↦
          ap (λ v. v.items) w.all-is
          ∙ (w.in_ok-push-2.ensures.items ∙ ap (λ (o : Option Tree). before ++ expression_at class k o) (sym w.in-Some.is))
      | in_default w ↦
          ap (λ v. v.items) w.all-is
          ∙ (sym (append-nil before) ∙ ap (λ (o : Option Tree). before ++ expression_at class k o) (sym w.in_default.is))
    ] in
    record {
      expressions = ap (λ (es : List Expression). es ++ rest) added ∙ (later ∙ c.loop-feature.invariant.expressions);
      types = ap (λ (ts : List (List Ty)). ts ++ left) c.in_ok-push.ensures.items ∙ (typed ∙ c.loop-feature.invariant.types);
    }

pub returns-clause-expressions : goal.returns-clause-expressions
returns-clause-expressions c =
    let p = c.args.p.now in
    let class = c.args.class in
    let same = ap (λ (fs : List Feature). length fs) c.features.ensures.features in
    let kept = ap (λ (q : List Class). length (features_of q class)) c.table.ensures.table in
    let end = c.loop-feature-test.false in
    no_feature_left p class c.loop-feature.all.items (c.args.all.now.items ++ expressions_of class 0 (features_of (fold_table p) class))
    c.loop-feature.feature (omega arith) c.loop-feature.invariant.expressions

pub returns-clause-types : goal.returns-clause-types
returns-clause-types c =
    let p = c.args.p.now in
    let class = c.args.class in
    let same = ap (λ (fs : List Feature). length fs) c.features.ensures.features in
    let kept = ap (λ (q : List Class). length (features_of q class)) c.table.ensures.table in
    let end = c.loop-feature-test.false in
    no_column_left p class c.loop-feature.columns.items (features_types (fold_table p) class (features_of (fold_table p) class))
    c.loop-feature.feature (omega arith) c.loop-feature.invariant.types
