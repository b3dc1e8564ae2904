use Rattle.std.proofs.Common.{◌≡◌, ◌+◌, ◌*◌, take, map}
use Rattle.cool_syntax.specs.Tree.{tree_size, trees_size, maybe_size, cases_size, of_list, of_option, of_twigs}
use Rattle.cool_expr.specs.View.{tree, twig}
use Rattle.cool_syntax.specs.Bare.{bare, bare_twig}
use Rattle.cool_expr.proofs.comparison.+comparison.Given as goal

abbrev pub decreases-same_expr : goal.decreases-same_expr
decreases-same_expr l = 8 * tree_size (tree l.a.now) + 1

abbrev pub decreases-same_call : goal.decreases-same_call
decreases-same_call l = 8 * tree_size (tree l.a.now)

abbrev pub decreases-same_control : goal.decreases-same_control
decreases-same_control l = 8 * tree_size (tree l.a.now)

abbrev pub decreases-same_binding : goal.decreases-same_binding
decreases-same_binding l = 8 * tree_size (tree l.a.now)

abbrev pub decreases-same_unary : goal.decreases-same_unary
decreases-same_unary l = 8 * tree_size (tree l.a.now)

abbrev pub decreases-same_binary : goal.decreases-same_binary
decreases-same_binary l = 8 * tree_size (tree l.a.now)

abbrev pub decreases-same_child : goal.decreases-same_child
decreases-same_child l = 8 * tree_size l.a.now + 2

abbrev pub decreases-same_option : goal.decreases-same_option
decreases-same_option l = 8 * maybe_size (of_option l.a.now) + 3

abbrev pub decreases-same_exprs : goal.decreases-same_exprs
decreases-same_exprs l = 8 * trees_size (of_list l.a.now) + 2

abbrev pub decreases-same_branch : goal.decreases-same_branch
decreases-same_branch l = 8 * tree_size l.a.now.body + 3

abbrev pub decreases-same_branches : goal.decreases-same_branches
decreases-same_branches l = 8 * cases_size (of_twigs l.a.now) + 4

abbrev pub invariant-same_exprs-loop-i : goal.invariant-same_exprs-loop-i
invariant-same_exprs-loop-i l =
    map (λ e. bare (tree e)) (take l.i l.xs) ≡ map (λ e. bare (tree e)) (take l.i l.ys)

abbrev pub invariant-same_branches-loop-i : goal.invariant-same_branches-loop-i
invariant-same_branches-loop-i l =
    map (λ b. bare_twig (twig b)) (take l.i l.xs) ≡ map (λ b. bare_twig (twig b)) (take l.i l.ys)
