-- The mutually recursive functions that collect the occurrences of names in an expression terminate: each call goes to a subexpression, which has a smaller
-- node number, or stays at the node and decreases a second measure. The loops of `add_all` and `add_branches` have added the occurrences in the parts before
-- the current one.
use Rattle.std.proofs.Common.{◌≡◌, ◌+◌, ◌*◌, ◌<◌, ◌++◌, map, drop}
use Rattle.std.specs.List.{AllByRecursion}
use Rattle.cool_syntax.specs.Tree.{of_list, of_twigs}
use Rattle.cool_syntax.specs.NodeLists.{all_trees, at_id, twig_at}
use Rattle.cool_names.specs.Marks.{marks_of_all, marks_of_cases}
use Rattle.cool_names.specs.Scopes.{variables}
use Rattle.cool_names.specs.NamingSettings.{context}
use Rattle.cool_names.proofs.+walk.Given as goal

abbrev pub decreases-expression::add_marks : goal.decreases-expression::add_marks
decreases-expression::add_marks l = 8 * l.id.0 + 4

abbrev pub decreases-expression::add_unary : goal.decreases-expression::add_unary
decreases-expression::add_unary l = 8 * l.id.0 + 3

abbrev pub decreases-expression::add_control : goal.decreases-expression::add_control
decreases-expression::add_control l = 8 * l.id.0 + 3

abbrev pub decreases-call::add_call : goal.decreases-call::add_call
decreases-call::add_call l = 8 * l.id.0 + 3

abbrev pub decreases-call::add_receiver : goal.decreases-call::add_receiver
decreases-call::add_receiver l = 8 * l.receiver.0 + 5

abbrev pub decreases-binding::add_binding : goal.decreases-binding::add_binding
decreases-binding::add_binding l = 8 * l.id.0 + 3

abbrev pub decreases-binding::add_within : goal.decreases-binding::add_within
decreases-binding::add_within l = 8 * l.body.0 + 5

abbrev pub decreases-binding::add_option : goal.decreases-binding::add_option
decreases-binding::add_option l = 8 * l.end.0

abbrev pub decreases-binding::add_branches : goal.decreases-binding::add_branches
decreases-binding::add_branches l = 8 * l.end.0

abbrev pub decreases-expression::add_all : goal.decreases-expression::add_all
decreases-expression::add_all l = 8 * l.end.0

abbrev pub invariant-binding::add_branches-loop-branch : goal.invariant-binding::add_branches-loop-branch
invariant-binding::add_branches-loop-branch l = record {
  scope : l.locals ≡ l.fn.locals;
  goes_on : l.marks.items ++ marks_of_cases (context l.setting) (variables l.fn.locals) (of_twigs (map (twig_at (all_trees l.setting.body.now)) (drop l.branch-index l.branches)))
      ≡ l.fn.marks.items ++ marks_of_cases (context l.setting) (variables l.fn.locals) (of_twigs (map (twig_at (all_trees l.setting.body.now)) l.branches));
  below : AllByRecursion (λ branch. branch.body.0 < l.fn.end.0) (drop l.branch-index l.branches);
}

abbrev pub invariant-expression::add_all-loop-item : goal.invariant-expression::add_all-loop-item
invariant-expression::add_all-loop-item l = record {
  scope : l.locals ≡ l.fn.locals;
  goes_on : l.marks.items ++ marks_of_all (context l.setting) (variables l.fn.locals) (of_list (map (at_id (all_trees l.setting.body.now)) (drop l.item-index l.items)))
      ≡ l.fn.marks.items ++ marks_of_all (context l.setting) (variables l.fn.locals) (of_list (map (at_id (all_trees l.setting.body.now)) l.items));
  below : AllByRecursion (λ item. item.0 < l.fn.end.0) (drop l.item-index l.items);
}
