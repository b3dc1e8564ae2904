-- Each step of the loop of `body_notices` adds the warnings about the next node. The nodes of a body are the subexpressions of its tree in order.
use Rattle.std.proofs.Common.{◌≡◌, [], ◌-◌, take, take_all, ap, arith, ◌∙◌}
use Rattle.std.specs.List.{flat_map}
use Rattle.cool_syntax.specs.Bare.{nowhere}
use Rattle.cool_syntax.specs.Tree as trees
use Rattle.cool_syntax.specs.NodeLists.{all_trees}
use Rattle.cool_notices.specs.Notices.{due_notices, notices_at, up_to}
use Rattle.cool_notices.proofs.NoticesInOrder.{all_nodes, at_nodes, one_more, then_both}
use Rattle.cool_notices.proofs.noticing.body_notices.Goals as goal

pub loop-number-preserved : goal.loop-number-preserved
loop-number-preserved c =
    then_both c.args.most [] _ _ _ _ _ _ _ c.loop-number.invariant c.in_ok-add_idle.ensures c.notice_at.ensures c.in_ok-add.ensures
    ∙ ap (up_to c.args.most []) (one_more notices_at (all_trees c.args.body.now) c.loop-number.number (trees.Int nowhere 0) (omega (arith, c.loop-number-test.true, c.len-number-end.ensures, all_nodes c.args.body.now)))

pub returns : goal.returns
returns c =
    let all = all_trees c.args.body.now in
    let room : c.args.most - 0 ≡ c.args.most = omega arith in
    c.loop-number.invariant
    ∙ ap (λ l. up_to c.args.most [] (flat_map notices_at l)) (take_all _ all (omega (arith, c.loop-number-test.false, c.len-number-end.ensures, all_nodes c.args.body.now)))
    ∙ ap (up_to c.args.most []) (at_nodes c.args.body.now)
    ∙ ap (λ n. take n (due_notices c.args.body.now)) room
