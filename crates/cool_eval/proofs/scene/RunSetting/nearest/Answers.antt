-- `RunSetting::nearest` returns the `case` branch of the first class on a chain of ancestors that has one. Each step of its loop passes one class without a
-- branch.
use Rattle.std.proofs.Common.{◌≡◌, ◌-◌, length, Some, None, ap, sym, ◌∙◌, refl, arith}
use Rattle.cool_syntax.specs.Tree.{of_twigs}
use Rattle.cool_classes.specs.Chains.{name_of, parent_of}
use Rattle.cool_eval.specs.StackMachine.{branch_named}
use Rattle.cool_eval.specs.Views.{taken_of}
use Rattle.cool_eval.proofs.NearestBranches.{nearest_begins, nearest_here, nearest_next, nearest_none, nearest_past, nearest_last}
use Rattle.cool_eval.proofs.scene.RunSetting.nearest.Goals as goal

pub loop-init : goal.loop-init
loop-init c =
    let p = c.args.self.now.table.now in
    nearest_begins p (of_twigs c.args.branches.now) c.args.class (length p) 0 refl refl

pub returns-in-Some : goal.returns-in-Some
returns-in-Some c =
    let p = c.args.self.now.table.now in
    let cs = of_twigs c.args.branches.now in
    nearest_here p cs c.loop.above (length p - c.loop.counter) _ (c.in-Some.ensures ∙ ap (branch_named cs) c.class_name.ensures) ∙ sym c.loop.invariant

pub returns-then-above-count : goal.returns-then-above-count
returns-then-above-count c =
    let p = c.args.self.now.table.now in
    let cs = of_twigs c.args.branches.now in
    let many = c.count.ensures.count in
    let past = c.if-above-count.true in
    let none : None ≡ branch_named cs (name_of p c.loop.above) = c.in_default.ensures ∙ ap (branch_named cs) c.class_name.ensures in
    nearest_past p cs c.loop.above (length p - c.loop.counter) none (omega arith) ∙ sym c.loop.invariant

pub returns-in_err-above : goal.returns-in_err-above
returns-in_err-above c =
    let p = c.args.self.now.table.now in
    let cs = of_twigs c.args.branches.now in
    let none : None ≡ branch_named cs (name_of p c.loop.above) = c.in_default.ensures ∙ ap (branch_named cs) c.class_name.ensures in
    let top : None ≡ parent_of p c.loop.above = c.in_err-above.ensures.parent in
    ap taken_of c.from_residual.ensures ∙ nearest_none p cs c.loop.above (length p - c.loop.counter) none top ∙ sym c.loop.invariant

pub loop-preserved : goal.loop-preserved
loop-preserved c =
    let p = c.args.self.now.table.now in
    let cs = of_twigs c.args.branches.now in
    let many = c.count-end.ensures.count in
    let low = c.loop-test.true in
    let none : None ≡ branch_named cs (name_of p c.loop.above) = c.in_default.ensures ∙ ap (branch_named cs) c.class_name.ensures in
    let up : Some c.in_ok-above.above ≡ parent_of p c.loop.above = c.in_ok-above.ensures.parent in
    c.loop.invariant ∙ nearest_next p cs c.loop.above c.in_ok-above.above (length p) c.loop.counter (omega arith) none up

pub returns : goal.returns
returns c =
    let p = c.args.self.now.table.now in
    let cs = of_twigs c.args.branches.now in
    let many = c.count-end.ensures.count in
    let past = c.loop-test.false in
    c.named-2.ensures ∙ ap (branch_named cs) c.class_name-2.ensures ∙ nearest_last p cs c.loop.above (length p) c.loop.counter (omega arith) ∙ sym c.loop.invariant
