-- `basic_depth` returns the number of classes above a basic class: 0 for Object, which has no parent, and 1 for the others, whose parent is Object.
use Rattle.std.proofs.Common.{◌≢◌, sym, ◌∙◌}
use Rattle.std.proofs.lemmas.Bool.{eqb-true, eq-eqb}
use Rattle.std.proofs.Common.{true≢false}
use Rattle.cool_classes.proofs.BasicDepths.{basic_top, basic_below}
use Rattle.cool_classes.proofs.depths.basic_depth.Goals as goal

pub returns-then-eq-clause-depth : goal.returns-then-eq-clause-depth
returns-then-eq-clause-depth c parents = basic_top parents c.args.class.0 (eqb-true c.args.class.0 0 (sym c.eq.ensures ∙ c.if-eq.true))

pub returns-else-eq-clause-depth : goal.returns-else-eq-clause-depth
returns-else-eq-clause-depth c parents =
    let other : c.args.class.0 ≢ 0 = λ e. true≢false (sym (eq-eqb c.args.class.0 0 e) ∙ sym c.eq.ensures ∙ c.if-eq.false) in
    basic_below parents c.args.class.0 c.requires other
