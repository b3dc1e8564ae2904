-- `notice_at` returns the notice (warning) about a node as `own_notice` of `Notices.antt` defines it for the tree of the node.
use Rattle.std.proofs.Common.{ap, sym, ◌∙◌}
use Rattle.cool_syntax.specs.NodeLists.{all_trees, made}
use Rattle.cool_notices.specs.Notices.{own_notice}
use Rattle.cool_notices.specs.declared.kind.NoticeKind.TheVariants as kind
use Rattle.cool_notices.proofs.NoticesInOrder.{due_by}
use Rattle.cool_notices.proofs.noticing.notice_at.Goals as goal

pub returns-in-Assign : goal.returns-in-Assign
returns-in-Assign c = due_by kind.OwnValue _ _ _ _ c.noted.ensures c.is_name.ensures ∙ sym (ap own_notice (c.node.ensures.tree ∙ ap (made (all_trees c.args.body.now)) c.in-Assign.is))

pub returns-in-If : goal.returns-in-If
returns-in-If c = c.test_notice.ensures ∙ sym (ap own_notice (c.node.ensures.tree ∙ ap (made (all_trees c.args.body.now)) c.in-If.is))

pub returns-in-While : goal.returns-in-While
returns-in-While c = c.test_notice-in-While.ensures ∙ sym (ap own_notice (c.node.ensures.tree ∙ ap (made (all_trees c.args.body.now)) c.in-While.is))

pub returns-in-Compare : goal.returns-in-Compare
returns-in-Compare c =
    due_by kind.SameSides _ _ _ _ c.noted-in-Compare.ensures c.are_one_name.ensures
    ∙ sym (ap own_notice (c.node.ensures.tree ∙ ap (made (all_trees c.args.body.now)) c.in-Compare.is))

pub returns-in-Arith : goal.returns-in-Arith
returns-in-Arith c =
    due_by kind.ByZero _ _ _ _ c.noted-in-Arith.ensures c.is_by_zero.ensures
    ∙ sym (ap own_notice (c.node.ensures.tree ∙ ap (made (all_trees c.args.body.now)) c.in-Arith.is))
