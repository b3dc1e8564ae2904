-- `arguments` returns the formal parameters as variables at the locations of their arguments. Each step of its loop adds one variable, from the last formal to
-- the first.
use Rattle.std.proofs.Common.{◌≡◌, suc, ◌-◌, ◌<◌, length, ap, sym, ◌∙◌, arith}
use Rattle.cool_syntax.specs.declared.file_tree.Formal.{Formal}
use Rattle.cool_eval.specs.Configurations.{locals_of}
use Rattle.cool_eval.proofs.ArgumentsLocated.{located_from, none_from, all_from, argument_added}
use Rattle.cool_eval.proofs.call.arguments.Goals as goal

pub loop-index-init : goal.loop-index-init
loop-index-init c =
    let m = c.min-index.ensures in
    ap locals_of c.in_ok-locals.ensures.empty ∙ sym (none_from c.args.formals.now c.args.first c.args.count c.min-index.result (omega (arith, m)))

pub loop-index-preserved : goal.loop-index-preserved
loop-index-preserved c =
    let fs = c.args.formals.now in
    let k = c.loop-index.index - 1 in
    let t = c.loop-index-test.true in
    let b = c.loop-index.auto.index in
    let m = c.min-index.ensures in
    let less : k < length fs = omega arith in
    let below : k < c.args.count = omega arith in
    let next : c.loop-index.index ≡ suc k = omega arith in
    argument_added fs c.args.first c.args.count c.loop-index.index k _ _ _ c.index-formals-index.result c.in_ok-add.ensures.added (ap (λ (f : Formal). f.name) (sym c.index-formals-index.is)) c.in_ok-location.ensures.after next less below c.index-formals-index.is c.loop-index.invariant

pub returns-clause-locals : goal.returns-clause-locals
returns-clause-locals c =
    let t = c.loop-index-test.false in
    let none : c.loop-index.index ≡ 0 = omega arith in
    c.loop-index.invariant ∙ ap (located_from c.args.formals.now c.args.first c.args.count) none ∙ all_from c.args.formals.now c.args.first c.args.count
