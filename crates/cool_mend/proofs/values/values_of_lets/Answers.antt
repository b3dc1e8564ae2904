-- `values_of_lets` visits each `let` of a body, because the nodes of a body are all of its subexpressions.
use Rattle.std.proofs.Common.{take_all, ap, arith, ◌∙◌}
use Rattle.std.specs.List.{flat_map}
use Rattle.cool_syntax.specs.NodeLists.{all_trees}
use Rattle.cool_mend.specs.Values.{values_of_let}
use Rattle.cool_notices.proofs.NoticesInOrder.{all_nodes}
use Rattle.cool_mend.proofs.values.values_of_lets.Goals as goal

pub returns : goal.returns
returns c =
    let body = c.args.body.now in
    c.loop-number.invariant ∙ ap (flat_map (values_of_let c.args.at)) (take_all _ (all_trees body) (omega (arith, c.loop-number-test.false, c.len-number-end.ensures, all_nodes body)))
