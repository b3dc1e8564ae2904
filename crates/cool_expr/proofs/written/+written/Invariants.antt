-- `write_expr` and the functions that call each other with it terminate, because the parts of an expression have smaller node numbers. In their loops, the
-- tokens so far, followed by those of the parts that are left, are all tokens.
use Rattle.std.proofs.Common.{◌≡◌, ◌+◌, ◌*◌, ◌<◌, ◌++◌, map, drop}
use Rattle.std.specs.List.{AllByRecursion}
use Rattle.cool_syntax.specs.Tree.{of_list, of_twigs}
use Rattle.cool_syntax.specs.NodeLists.{all_trees, at_id, twig_at}
use Rattle.cool_syntax.specs.WrittenTrees.{written_args, written_more, written_items, written_cases}
use Rattle.cool_expr.proofs.written.+written.Given as goal

abbrev pub decreases-write_expr : goal.decreases-write_expr
decreases-write_expr l = 4 * l.id.0 + 2

abbrev pub decreases-write_operand : goal.decreases-write_operand
decreases-write_operand l = 4 * l.id.0 + 3

abbrev pub decreases-write_call : goal.decreases-write_call
decreases-write_call l = 4 * l.id.0 + 1

abbrev pub decreases-write_binding : goal.decreases-write_binding
decreases-write_binding l = 4 * l.id.0 + 1

abbrev pub decreases-write_control : goal.decreases-write_control
decreases-write_control l = 4 * l.id.0 + 1

abbrev pub decreases-write_unary : goal.decreases-write_unary
decreases-write_unary l = 4 * l.id.0 + 1

abbrev pub decreases-write_binary : goal.decreases-write_binary
decreases-write_binary l = 4 * l.id.0 + 1

abbrev pub decreases-write_args : goal.decreases-write_args
decreases-write_args l = 4 * l.end.0

abbrev pub decreases-write_items : goal.decreases-write_items
decreases-write_items l = 4 * l.end.0

abbrev pub decreases-write_init : goal.decreases-write_init
decreases-write_init l = 4 * l.end.0

abbrev pub decreases-write_branches : goal.decreases-write_branches
decreases-write_branches l = 4 * l.end.0

abbrev pub invariant-write_items-loop-item : goal.invariant-write_items-loop-item
invariant-write_items-loop-item l = record {
  goes_on : l.out ++ written_items l.at (of_list (map (at_id (all_trees l.body)) (drop l.item-index l.items))) ≡ l.fn.out ++ written_items l.at (of_list (map (at_id (all_trees l.body)) l.items));
  below : AllByRecursion (λ item. item.0 < l.fn.end.0) (drop l.item-index l.items);
}

abbrev pub invariant-write_branches-loop-branch : goal.invariant-write_branches-loop-branch
invariant-write_branches-loop-branch l = record {
  goes_on : l.out ++ written_cases (of_twigs (map (twig_at (all_trees l.body)) (drop l.branch-index l.branches))) ≡ l.fn.out ++ written_cases (of_twigs (map (twig_at (all_trees l.body)) l.branches));
  below : AllByRecursion (λ branch. branch.body.0 < l.fn.end.0) (drop l.branch-index l.branches);
}

abbrev pub invariant-write_args-loop-arg : goal.invariant-write_args-loop-arg
invariant-write_args-loop-arg l = record {
  goes_on : l.out ++ written_more l.at (of_list (map (at_id (all_trees l.body)) (drop l.arg-index l.rest))) ≡ l.fn.out ++ written_args l.at (of_list (map (at_id (all_trees l.body)) l.fn.args));
  below : AllByRecursion (λ arg. arg.0 < l.fn.end.0) (drop l.arg-index l.rest);
}
