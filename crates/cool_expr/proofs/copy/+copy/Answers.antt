use Rattle.std.proofs.Common.{ap, arith}
use Rattle.cool_syntax.specs.Tree.{trees_size, cases_size, of_list, of_twigs}
use Rattle.cool_expr.proofs.PartsAreSmaller.{expr_le, branch_le}
use Rattle.cool_expr.proofs.copy.+copy.Goals as goal

pub copy_branches-copy_branch-requires : goal.copy_branches-copy_branch-requires
copy_branches-copy_branch-requires t c =
    omega (arith, branch_le c.as_slice-items.result.now c.loop-branch.branch-index c.branch-item.result (omega arith) c.branch-item.is, ap (λ ws. cases_size (of_twigs ws)) c.as_slice-items.ensures)

pub copy_exprs-copy_expr-requires : goal.copy_exprs-copy_expr-requires
copy_exprs-copy_expr-requires t c =
    omega (arith, expr_le c.as_slice-items.result.now c.loop-item.item-index c.item-item.result (omega arith) c.item-item.is, ap (λ ts. trees_size (of_list ts)) c.as_slice-items.ensures)
