-- `folded_expressions` returns the folded expressions of all features and the types of their nodes. Each step of its loop adds those of one class, and in
-- the end no class is left.
use Rattle.std.proofs.Common.{◌+◌, ◌<◌, ◌++◌, ◌∙◌, ap, drop, length, List, arith, subst}
use Rattle.std.specs.Global.{Vec}
use Rattle.cool_classes.specs.declared.class_id.Ty.{Ty}
use Rattle.cool_classes.specs.Chains.{Class}
use Rattle.cool_rules.specs.NodeTypes.{classes_types, columns_of, table_types}
use Rattle.cool_rules.proofs.ColumnsLeft.{columns_later}
use Rattle.cool_fold.specs.declared.program.Expression.{Expression}
use Rattle.cool_fold.specs.Definers.{AreDefiners}
use Rattle.cool_fold.specs.Expressions.{expressions_from}
use Rattle.cool_fold.specs.Folding.{fold_table}
use Rattle.cool_fold.proofs.ExpressionsLeft.{classes_later, no_class_left}
use Rattle.cool_fold.proofs.FoldedColumns.{no_columns_left}
use Rattle.cool_fold.proofs.FoldedTables.{folded_shape}
use Rattle.cool_fold.proofs.program.folded_expressions.Goals as goal

pub add_folded-requires-clause-definers : goal.add_folded-requires-clause-definers
add_folded-requires-clause-definers c =
    subst (λ (q : List Class). AreDefiners q c.in_ok-definers.definers) c.table-table.ensures.table c.in_ok-definers.ensures

pub loop-number-init : goal.loop-number-init
loop-number-init c =
    let q = fold_table c.args.p.now in
    record {
      expressions = ap (λ (es : List Expression). es ++ expressions_from 0 q) c.new-all.ensures.items;
      types = ap (λ (held : List (Vec (List Ty))). columns_of held ++ table_types q) c.new-types.ensures.items;
    }

pub loop-number-preserved : goal.loop-number-preserved
loop-number-preserved c =
    let p = c.args.p.now in
    let q = fold_table p in
    let k = c.loop-number.number in
    let same = ap (λ (r : List Class). length r) c.table-table.ensures.table in
    let count = c.count-number-end.ensures.count in
    let test = c.loop-number-test.true in
    let within : k < length p = omega arith in
    let inside : k < length q = let shape = (folded_shape p).count in omega arith in
    record {
      expressions = ap (λ (es : List Expression). es ++ expressions_from (k + 1) (drop (k + 1) q)) c.in_ok-add_folded.ensures.expressions
          ∙ (classes_later q c.loop-number.all.items k inside ∙ c.loop-number.invariant.expressions);
      types = ap (λ (held : List (Vec (List Ty))). columns_of held ++ classes_types q (k + 1) (drop (k + 1) q)) c.in_ok-push.ensures.items
          ∙ (columns_later q c.loop-number.types.items k c.in_ok-add_folded.field-0 inside c.in_ok-add_folded.ensures.types
          ∙ c.loop-number.invariant.types);
    }

pub returns-clause-all : goal.returns-clause-all
returns-clause-all c =
    let p = c.args.p.now in
    let same = ap (λ (q : List Class). length q) c.table-table.ensures.table in
    let count = c.count-number-end.ensures.count in
    let end = c.loop-number-test.false in
    no_class_left p c.loop-number.all.items (expressions_from 0 (fold_table p)) c.loop-number.number (omega arith)
    c.loop-number.invariant.expressions

pub returns-clause-types : goal.returns-clause-types
returns-clause-types c =
    let p = c.args.p.now in
    let same = ap (λ (q : List Class). length q) c.table-table.ensures.table in
    let count = c.count-number-end.ensures.count in
    let end = c.loop-number-test.false in
    no_columns_left p (columns_of c.loop-number.types.items) (table_types (fold_table p)) c.loop-number.number (omega arith)
    c.loop-number.invariant.types
