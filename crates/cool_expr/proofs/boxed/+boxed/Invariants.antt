use Rattle.std.proofs.Common.{◌≡◌, ◌+◌, ◌*◌, ◌<◌, [], take, drop, map}
use Rattle.std.specs.List.{AllByRecursion}
use Rattle.cool_expr.specs.View.{tree, twig}
use Rattle.cool_syntax.specs.NodeLists.{at_id, twig_at, grown}
use Rattle.cool_expr.proofs.boxed.+boxed.Given as goal

abbrev pub decreases-boxed_tree : goal.decreases-boxed_tree
decreases-boxed_tree l = 8 * l.id.0 + 4

abbrev pub decreases-boxed_call : goal.decreases-boxed_call
decreases-boxed_call l = 8 * l.id.0 + 3

abbrev pub decreases-boxed_control : goal.decreases-boxed_control
decreases-boxed_control l = 8 * l.id.0 + 3

abbrev pub decreases-boxed_binding : goal.decreases-boxed_binding
decreases-boxed_binding l = 8 * l.id.0 + 3

abbrev pub decreases-boxed_unary : goal.decreases-boxed_unary
decreases-boxed_unary l = 8 * l.id.0 + 3

abbrev pub decreases-boxed_binary : goal.decreases-boxed_binary
decreases-boxed_binary l = 8 * l.id.0 + 3

abbrev pub decreases-boxed_child : goal.decreases-boxed_child
decreases-boxed_child l = 8 * l.id.0 + 5

abbrev pub decreases-boxed_option : goal.decreases-boxed_option
decreases-boxed_option l = 8 * l.end.0

abbrev pub decreases-boxed_all : goal.decreases-boxed_all
decreases-boxed_all l = 8 * l.end.0

abbrev pub decreases-boxed_branch : goal.decreases-boxed_branch
decreases-boxed_branch l = 8 * l.branch.now.body.0 + 6

abbrev pub decreases-boxed_branches : goal.decreases-boxed_branches
decreases-boxed_branches l = 8 * l.end.0

abbrev pub invariant-boxed_all-loop-id : goal.invariant-boxed_all-loop-id
invariant-boxed_all-loop-id l = record {
  made : map tree l.exprs.items ≡ map (at_id (grown [] l.pool.nodes)) (take l.id-index l.ids);
  below : AllByRecursion (λ c. c.0 < l.fn.end.0) (drop l.id-index l.ids);
}

abbrev pub invariant-boxed_branches-loop-branch : goal.invariant-boxed_branches-loop-branch
invariant-boxed_branches-loop-branch l = record {
  made : map twig l.copies.items ≡ map (twig_at (grown [] l.pool.nodes)) (take l.branch-index l.branches);
  below : AllByRecursion (λ b. b.body.0 < l.fn.end.0) (drop l.branch-index l.branches);
}
