-- `fold` returns the program with each expression folded. Each step of its loop puts one folded expression into the class table, and in the end the result is
-- the folded table.
use Rattle.std.proofs.Common.{◌∙◌, List, ap, sym, subst}
use Rattle.cool_syntax.specs.declared.TheConstants.{MOST_FILES}
use Rattle.cool_classes.specs.Chains.{Class}
use Rattle.cool_rules.specs.Fits.{Fits}
use Rattle.cool_rules.specs.NodeTypes.{table_types}
use Rattle.cool_rules.specs.TypedTables.{IsTypedTable}
use Rattle.cool_fold.specs.Folding.{fold_table}
use Rattle.cool_fold.proofs.FoldedTableFits.{folded_fits}
use Rattle.cool_fold.proofs.FoldedTableIsTyped.{folded_typed}
use Rattle.cool_fold.proofs.ReplacedExpressions.{Becomes, all_becomes, last_placed, last_taken, nothing_left}
use Rattle.cool_fold.proofs.program.fold.Goals as goal

pub loop-expression-init : goal.loop-expression-init
loop-expression-init c =
    let all = c.in_ok-all.field-0.all.items in
    subst (λ (t : List Class). Becomes t all (fold_table c.args.p)) (sym c.into_table-table.ensures.table)
    (all_becomes c.args.p all c.in_ok-all.ensures.all)

pub swap_body-requires-clause-within : goal.swap_body-requires-clause-within
swap_body-requires-clause-within c =
    let all = c.loop-expression.all.items in
    let rest = c.pop.new.self.items in
    let e = c.in-Some.expression in
    (last_placed c.loop-expression.table (fold_table c.args.p) all rest e c.in-Some.ensures.items c.loop-expression.invariant).0

pub swap_body-requires-clause-has : goal.swap_body-requires-clause-has
swap_body-requires-clause-has c =
    let all = c.loop-expression.all.items in
    let rest = c.pop.new.self.items in
    let e = c.in-Some.expression in
    (last_placed c.loop-expression.table (fold_table c.args.p) all rest e c.in-Some.ensures.items c.loop-expression.invariant).1

pub loop-expression-preserved : goal.loop-expression-preserved
loop-expression-preserved c =
    let all = c.loop-expression.all.items in
    let rest = c.pop.new.self.items in
    let q = fold_table c.args.p in
    subst (λ (t : List Class). Becomes t rest q) (sym c.swap_body.ensures.now)
    (last_taken c.loop-expression.table q all rest c.in-Some.expression c.in-Some.ensures.items c.loop-expression.invariant)

pub new-requires-clause-fits : goal.new-requires-clause-fits
new-requires-clause-fits c =
    let table = c.into_table-table in
    let typed = subst IsTypedTable table.ensures.table table.ensures.typed in
    let fits = subst (λ (t : List Class). Fits t MOST_FILES) table.ensures.table table.ensures.fits in
    let es = c.loop-expression.all in
    let none = sym es.ok.0 ∙ c.in_default.ensures.cases.0 in
    let same = nothing_left c.loop-expression.table es.items (fold_table c.args.p) none c.loop-expression.invariant in
    subst (λ (t : List Class). Fits t MOST_FILES) (sym same) (folded_fits c.args.p typed MOST_FILES fits)

pub new-requires-clause-typed : goal.new-requires-clause-typed
new-requires-clause-typed c =
    let table = c.into_table-table in
    let typed = subst IsTypedTable table.ensures.table table.ensures.typed in
    let es = c.loop-expression.all in
    let none = sym es.ok.0 ∙ c.in_default.ensures.cases.0 in
    let same = nothing_left c.loop-expression.table es.items (fold_table c.args.p) none c.loop-expression.invariant in
    subst IsTypedTable (sym same) (folded_typed c.args.p typed)

pub new-requires-clause-types : goal.new-requires-clause-types
new-requires-clause-types c =
    let es = c.loop-expression.all in
    let none = sym es.ok.0 ∙ c.in_default.ensures.cases.0 in
    let same = nothing_left c.loop-expression.table es.items (fold_table c.args.p) none c.loop-expression.invariant in
    c.in_ok-all.ensures.types ∙ ap table_types (sym same)

pub returns-clause-folded : goal.returns-clause-folded
returns-clause-folded c =
    let es = c.loop-expression.all in
    let none = sym es.ok.0 ∙ c.in_default.ensures.cases.0 in
    c.new.ensures ∙ nothing_left c.loop-expression.table es.items (fold_table c.args.p) none c.loop-expression.invariant

pub returns-clause-fits : goal.returns-clause-fits
returns-clause-fits c = λ count fits.
    let table = c.into_table-table in
    let typed = subst IsTypedTable table.ensures.table table.ensures.typed in
    let es = c.loop-expression.all in
    let none = sym es.ok.0 ∙ c.in_default.ensures.cases.0 in
    let same = nothing_left c.loop-expression.table es.items (fold_table c.args.p) none c.loop-expression.invariant in
    subst (λ (t : List Class). Fits t count) (sym (c.new.ensures ∙ same)) (folded_fits c.args.p typed count fits)
