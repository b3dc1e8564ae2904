-- The mutually recursive functions around `type_of` terminate, because subexpressions have smaller node numbers. In their loops, the scope is as before, and
-- the types of the nodes of the subexpressions so far are added.
use Rattle.std.proofs.Common.{◌≡◌, ◌+◌, ◌*◌, ◌<◌, ◌≤◌, [], ◌++◌, None, length, map, drop}
use Rattle.std.specs.Prelude.{IfSome}
use Rattle.std.specs.List.{AllByRecursion}
use Rattle.cool_syntax.specs.Tree.{cases_size, trees_size, of_list, of_twigs}
use Rattle.cool_syntax.specs.NodeLists.{all_trees, at_id, twig_at}
use Rattle.cool_rules.specs.Conformance.{IsType}
use Rattle.cool_rules.specs.NodeTypes.{types_of_all, types_of_cases}
use Rattle.cool_check.specs.Contexts.{context}
use Rattle.cool_check.specs.FirstFaults.{all_checked, cases_checked, last_checked}
use Rattle.cool_check.proofs.+typing.Given as goal
use Rattle.cool_rules.specs.Typing.{object_type}

abbrev pub decreases-expression::type_of : goal.decreases-expression::type_of
decreases-expression::type_of l = 8 * l.id.0 + 4

abbrev pub decreases-expression::type_of_node : goal.decreases-expression::type_of_node
decreases-expression::type_of_node l = 8 * l.id.0 + 3

abbrev pub decreases-expression::type_of_control : goal.decreases-expression::type_of_control
decreases-expression::type_of_control l = 8 * l.id.0 + 2

abbrev pub decreases-dispatch::type_of_call : goal.decreases-dispatch::type_of_call
decreases-dispatch::type_of_call l = 8 * l.id.0 + 2

abbrev pub decreases-binding::type_of_binding : goal.decreases-binding::type_of_binding
decreases-binding::type_of_binding l = 8 * l.id.0 + 2

abbrev pub decreases-operator::type_of_unary : goal.decreases-operator::type_of_unary
decreases-operator::type_of_unary l = 8 * l.id.0 + 2

abbrev pub decreases-operator::type_of_binary : goal.decreases-operator::type_of_binary
decreases-operator::type_of_binary l = 8 * l.id.0 + 2

abbrev pub decreases-binding::type_within : goal.decreases-binding::type_within
decreases-binding::type_within l = 8 * l.body.0 + 5

abbrev pub decreases-binding::type_of_option : goal.decreases-binding::type_of_option
decreases-binding::type_of_option l = 8 * l.end.0

abbrev pub decreases-binding::type_of_branches : goal.decreases-binding::type_of_branches
decreases-binding::type_of_branches l = 8 * l.end.0

abbrev pub decreases-expression::type_of_last : goal.decreases-expression::type_of_last
decreases-expression::type_of_last l = 8 * l.end.0

abbrev pub decreases-expression::types_of : goal.decreases-expression::types_of
decreases-expression::types_of l = 8 * l.end.0

abbrev pub invariant-binding::type_of_branches-loop-branch : goal.invariant-binding::type_of_branches-loop-branch
invariant-binding::type_of_branches-loop-branch l = record {
  scope : l.locals ≡ l.fn.locals;
  joined : IfSome l.joined (IsType l.setting.table.now);
  walked : cases_checked (context l.setting) l.fn.locals l.classes.items l.joined (of_twigs (map (twig_at (all_trees l.setting.body.now)) (drop l.branch-index l.branches)))
      ≡ cases_checked (context l.setting) l.fn.locals [] None (of_twigs (map (twig_at (all_trees l.setting.body.now)) l.branches));
  column : l.types.held ++ types_of_cases l.setting.table.now l.setting.class (l.fn.locals ++ l.setting.attributes.now) (of_twigs (map (twig_at (all_trees l.setting.body.now)) (drop l.branch-index l.branches)))
      ≡ l.fn.types.held ++ types_of_cases l.setting.table.now l.setting.class (l.fn.locals ++ l.setting.attributes.now) (of_twigs (map (twig_at (all_trees l.setting.body.now)) l.branches));
  room : length l.types.held + cases_size (of_twigs (map (twig_at (all_trees l.setting.body.now)) (drop l.branch-index l.branches))) + l.fn.types.room
      ≤ length l.fn.types.held + cases_size (of_twigs (map (twig_at (all_trees l.setting.body.now)) l.branches)) + l.types.room;
  below : AllByRecursion (λ branch. branch.body.0 < l.fn.end.0) (drop l.branch-index l.branches);
}

abbrev pub invariant-expression::type_of_last-loop-item : goal.invariant-expression::type_of_last-loop-item
invariant-expression::type_of_last-loop-item l = record {
  scope : l.locals ≡ l.fn.locals;
  last : IsType l.setting.table.now l.last;
  walked : last_checked (context l.setting) l.fn.locals l.last (of_list (map (at_id (all_trees l.setting.body.now)) (drop l.item-index l.items)))
      ≡ last_checked (context l.setting) l.fn.locals object_type (of_list (map (at_id (all_trees l.setting.body.now)) l.items));
  column : l.types.held ++ types_of_all l.setting.table.now l.setting.class (l.fn.locals ++ l.setting.attributes.now) (of_list (map (at_id (all_trees l.setting.body.now)) (drop l.item-index l.items)))
      ≡ l.fn.types.held ++ types_of_all l.setting.table.now l.setting.class (l.fn.locals ++ l.setting.attributes.now) (of_list (map (at_id (all_trees l.setting.body.now)) l.items));
  room : length l.types.held + trees_size (of_list (map (at_id (all_trees l.setting.body.now)) (drop l.item-index l.items))) + l.fn.types.room
      ≤ length l.fn.types.held + trees_size (of_list (map (at_id (all_trees l.setting.body.now)) l.items)) + l.types.room;
  below : AllByRecursion (λ item. item.0 < l.fn.end.0) (drop l.item-index l.items);
}

abbrev pub invariant-expression::types_of-loop-item : goal.invariant-expression::types_of-loop-item
invariant-expression::types_of-loop-item l = record {
  scope : l.locals ≡ l.fn.locals;
  found : AllByRecursion (IsType l.setting.table.now) l.found.items;
  each : length l.found.items ≡ l.item-index;
  walked : all_checked (context l.setting) l.fn.locals l.found.items (of_list (map (at_id (all_trees l.setting.body.now)) (drop l.item-index l.items)))
      ≡ all_checked (context l.setting) l.fn.locals [] (of_list (map (at_id (all_trees l.setting.body.now)) l.items));
  column : l.types.held ++ types_of_all l.setting.table.now l.setting.class (l.fn.locals ++ l.setting.attributes.now) (of_list (map (at_id (all_trees l.setting.body.now)) (drop l.item-index l.items)))
      ≡ l.fn.types.held ++ types_of_all l.setting.table.now l.setting.class (l.fn.locals ++ l.setting.attributes.now) (of_list (map (at_id (all_trees l.setting.body.now)) l.items));
  room : length l.types.held + trees_size (of_list (map (at_id (all_trees l.setting.body.now)) (drop l.item-index l.items))) + l.fn.types.room
      ≤ length l.fn.types.held + trees_size (of_list (map (at_id (all_trees l.setting.body.now)) l.items)) + l.types.room;
  below : AllByRecursion (λ item. item.0 < l.fn.end.0) (drop l.item-index l.items);
}
