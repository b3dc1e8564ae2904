use Rattle.std.proofs.Common.{ap, arith}
use Rattle.cool_syntax.specs.Tree.{trees_size, cases_size, of_list, of_twigs}
use Rattle.cool_expr.specs.View.{tree, twig}
use Rattle.cool_syntax.specs.Bare.{bare, bare_twig}
use Rattle.cool_expr.proofs.PartsAreSmaller.{expr_le, branch_le}
use Rattle.cool_syntax.proofs.ComparingLists.{same_at, same_length, same_whole}
use Rattle.cool_expr.proofs.ComparingParts.{same_exprs, same_branches}
use Rattle.cool_expr.proofs.comparison.+comparison.Goals as goal

pub same_exprs-same_expr-requires : goal.same_exprs-same_expr-requires
same_exprs-same_expr-requires t c =
    omega (arith, expr_le c.as_slice-xs.result.now c.loop-i.i c.index-xs-i.result (omega arith) c.index-xs-i.is, ap (λ ts. trees_size (of_list ts)) c.as_slice-xs.ensures)

pub same_exprs-returns-then-xs-ys : goal.same_exprs-returns-then-xs-ys
same_exprs-returns-then-xs-ys t c =
    let lists = same_exprs _ _ c.as_slice-xs.result.now c.as_slice-ys.result.now c.as_slice-xs.ensures c.as_slice-ys.ensures in
    record { same = (λ e. absurd (cc), λ h. absurd (omega (arith, same_length _ _ _ (lists.0 h)))) }

pub same_exprs-returns-then-not-same_expr : goal.same_exprs-returns-then-not-same_expr
same_exprs-returns-then-not-same_expr t c =
    let lists = same_exprs _ _ c.as_slice-xs.result.now c.as_slice-ys.result.now c.as_slice-xs.ensures c.as_slice-ys.ensures in
    record { same = (λ e. absurd (cc), λ h. c.if-not-same_expr.ensures.same.1 (same_at (λ e. bare (tree e)) c.as_slice-xs.result.now c.as_slice-ys.result.now c.loop-i.i c.index-xs-i.result c.index-ys-i.result (omega arith) (omega arith) c.index-xs-i.is c.index-ys-i.is (lists.0 h))) }

pub same_exprs-returns : goal.same_exprs-returns
same_exprs-returns t c =
    let lists = same_exprs _ _ c.as_slice-xs.result.now c.as_slice-ys.result.now c.as_slice-xs.ensures c.as_slice-ys.ensures in
    record { same = (λ e. lists.1 (same_whole (λ e. bare (tree e)) _ _ c.loop-i.i (omega arith) (omega arith) c.loop-i.invariant), λ h. (cc)) }

pub same_branches-same_branch-requires : goal.same_branches-same_branch-requires
same_branches-same_branch-requires t c =
    omega (arith, branch_le c.as_slice-xs.result.now c.loop-i.i c.index-xs-i.result (omega arith) c.index-xs-i.is, ap (λ ws. cases_size (of_twigs ws)) c.as_slice-xs.ensures)

pub same_branches-returns-then-xs-ys : goal.same_branches-returns-then-xs-ys
same_branches-returns-then-xs-ys t c =
    let lists = same_branches _ _ c.as_slice-xs.result.now c.as_slice-ys.result.now c.as_slice-xs.ensures c.as_slice-ys.ensures in
    record { same = (λ e. absurd (cc), λ h. absurd (omega (arith, same_length _ _ _ (lists.0 h)))) }

pub same_branches-returns-then-not-same_branch : goal.same_branches-returns-then-not-same_branch
same_branches-returns-then-not-same_branch t c =
    let lists = same_branches _ _ c.as_slice-xs.result.now c.as_slice-ys.result.now c.as_slice-xs.ensures c.as_slice-ys.ensures in
    record { same = (λ e. absurd (cc), λ h. c.if-not-same_branch.ensures.same.1 (same_at (λ b. bare_twig (twig b)) c.as_slice-xs.result.now c.as_slice-ys.result.now c.loop-i.i c.index-xs-i.result c.index-ys-i.result (omega arith) (omega arith) c.index-xs-i.is c.index-ys-i.is (lists.0 h))) }

pub same_branches-returns : goal.same_branches-returns
same_branches-returns t c =
    let lists = same_branches _ _ c.as_slice-xs.result.now c.as_slice-ys.result.now c.as_slice-xs.ensures c.as_slice-ys.ensures in
    record { same = (λ e. lists.1 (same_whole (λ b. bare_twig (twig b)) _ _ c.loop-i.i (omega arith) (omega arith) c.loop-i.invariant), λ h. (cc)) }
