-- An element of a list of expressions or `case` branches has no more nodes than the whole list.
use Rattle.std.proofs.Common.{◌≡◌, ℕ, ◌<◌, ◌≤◌, zero, suc, List, [], ◌∷◌, length, get_or, map, ap, arith}
use Rattle.cool_expr.specs.declared.expr.Expr.{Expr}
use Rattle.cool_expr.specs.declared.expr.Branch.{Branch}
use Rattle.cool_syntax.specs.Tree.{tree_size, trees_size, cases_size, of_list, of_twigs}
use Rattle.cool_expr.specs.View.{tree, twig}

-- an expression of a list
pub expr_le : (es : List Expr) (i : ℕ) (e : Expr) → i < length es → e ≡ get_or es i e → tree_size (tree e) ≤ trees_size (of_list (map tree es))
expr_le [] i e h p = absurd (omega arith)
expr_le (x ∷ xs) zero e h p = omega (arith, ap (λ y. tree_size (tree y)) p)
expr_le (x ∷ xs) (suc i) e h p = omega (arith, expr_le xs i e (omega arith) p)

-- the body of a branch of a list
pub branch_le : (bs : List Branch) (i : ℕ) (b : Branch) → i < length bs → b ≡ get_or bs i b → tree_size b.body ≤ cases_size (of_twigs (map twig bs))
branch_le [] i b h p = absurd (omega arith)
branch_le (x ∷ xs) zero b h p = omega (arith, ap (λ (y : Branch). tree_size y.body) p)
branch_le (x ∷ xs) (suc i) b h p = omega (arith, branch_le xs i b (omega arith) p)
