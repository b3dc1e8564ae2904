use Rattle.std.proofs.Common.{◌≡◌, ◌+◌, ◌*◌, take, map}
use Rattle.cool_syntax.specs.Tree.{tree_size, trees_size, maybe_size, cases_size, of_list, of_option, of_twigs}
use Rattle.cool_expr.specs.View.{tree, twig}
use Rattle.cool_expr.proofs.copy.+copy.Given as goal

abbrev pub decreases-copy_expr : goal.decreases-copy_expr
decreases-copy_expr l = 8 * tree_size (tree l.e.now) + 1

abbrev pub decreases-copy_call : goal.decreases-copy_call
decreases-copy_call l = 8 * tree_size (tree l.e.now)

abbrev pub decreases-copy_control : goal.decreases-copy_control
decreases-copy_control l = 8 * tree_size (tree l.e.now)

abbrev pub decreases-copy_binding : goal.decreases-copy_binding
decreases-copy_binding l = 8 * tree_size (tree l.e.now)

abbrev pub decreases-copy_unary : goal.decreases-copy_unary
decreases-copy_unary l = 8 * tree_size (tree l.e.now)

abbrev pub decreases-copy_binary : goal.decreases-copy_binary
decreases-copy_binary l = 8 * tree_size (tree l.e.now)

abbrev pub decreases-copy_child : goal.decreases-copy_child
decreases-copy_child l = 8 * tree_size l.child.now + 2

abbrev pub decreases-copy_option : goal.decreases-copy_option
decreases-copy_option l = 8 * maybe_size (of_option l.child.now) + 3

abbrev pub decreases-copy_exprs : goal.decreases-copy_exprs
decreases-copy_exprs l = 8 * trees_size (of_list l.exprs.now) + 2

abbrev pub decreases-copy_branch : goal.decreases-copy_branch
decreases-copy_branch l = 8 * tree_size l.branch.now.body + 3

abbrev pub decreases-copy_branches : goal.decreases-copy_branches
decreases-copy_branches l = 8 * cases_size (of_twigs l.branches.now) + 4

abbrev pub invariant-copy_exprs-loop-item : goal.invariant-copy_exprs-loop-item
invariant-copy_exprs-loop-item l = map tree l.copies.items ≡ map tree (take l.item-index l.items)

abbrev pub invariant-copy_branches-loop-branch : goal.invariant-copy_branches-loop-branch
invariant-copy_branches-loop-branch l = map twig l.copies.items ≡ map twig (take l.branch-index l.items)
