-- Each step of the loop of `add_idle` adds the warning, if any, that an expression in a block has no effect and its value is not used. The loop stops
-- before the last expression of the block, which gives the block's value.
use Rattle.std.proofs.Common.{◌≡◌, List, ◌-◌, map, length, take, sym, ap, arith, ◌∙◌}
use Rattle.std.specs.List.{flat_map}
use Rattle.cool_syntax.specs.declared.node.NodeId.{NodeId}
use Rattle.cool_syntax.specs.Tree.{of_list}
use Rattle.cool_syntax.specs.NodeLists.{all_trees, at_id, made}
use Rattle.cool_notices.specs.Notices.{block_notices, idle_notices, up_to}
use Rattle.cool_notices.proofs.NoticesInOrder.{all_but_last, idle_at, one_more, then_noted}
use Rattle.cool_notices.proofs.noticing.add_idle.Goals as goal

pub loop-index-preserved : goal.loop-index-preserved
loop-index-preserved c =
    then_noted c.args.most c.args.all.now.items _ _ _ _ _ c.loop-index.invariant c.idle_notice.ensures c.in_ok-add.ensures
    ∙ ap (up_to c.args.most c.args.all.now.items) (one_more (idle_at (all_trees c.args.body.now)) c.as_slice-items.result.now c.loop-index.index (record { 0 = 0 }) (omega (arith, c.loop-index-test.true, c.saturating_sub-index-end.ensures)))

pub returns : goal.returns
returns c =
    let ts = all_trees c.args.body.now in
    let at_end : c.loop-index.index ≡ length c.as_slice-items.result.now - 1 = omega (arith, c.loop-index-test.false, c.loop-index.auto.index-end, c.saturating_sub-index-end.ensures) in
    c.loop-index.invariant
    ∙ ap (λ n. up_to c.args.most c.args.all.now.items (flat_map (idle_at ts) (take n c.as_slice-items.result.now))) at_end
    ∙ ap (up_to c.args.most c.args.all.now.items) (all_but_last ts c.as_slice-items.result.now)
    ∙ ap (λ (l : List NodeId). up_to c.args.most c.args.all.now.items (idle_notices (of_list (map (at_id ts) l)))) c.as_slice-items.ensures
    ∙ sym (ap (λ t. up_to c.args.most c.args.all.now.items (block_notices t)) (c.node.ensures.tree ∙ ap (made ts) c.in-Block.is))
