-- Each part of an expression in memory has fewer nodes than the expression, so that recursion over the parts terminates.
use Rattle.std.specs.Prelude.{◌≤◌, ◌+◌, max, List, [], ◌∷◌, map, Some, None}
use Rattle.std.proofs.Common.{arith}
use denote.Param.Weighed.{most}
use Rattle.cool_expr.specs.declared.expr.Expr.{Expr}
use Rattle.cool_expr.specs.declared.expr.Expr.TheVariants.{Assign, Dispatch, StaticDispatch, If, While, Block, Let, Case, New, IsVoid, Arith, Neg, Compare, Not, Id, Int, Str, Bool}
use Rattle.cool_expr.specs.declared.expr.Branch.{Branch}
use Rattle.cool_expr.specs.declared.parts.Branches.TheDeep.{deep-Expr, deep-Branch}
use Rattle.cool_syntax.specs.Tree.{tree_size, trees_size, cases_size, of_list, of_twigs}
use Rattle.cool_syntax.proofs.TreesHaveNodes.{one_le_size}
use Rattle.cool_expr.specs.View.{tree, twig}

pub deep_le_size : (e : Expr) → max (deep-Expr e) 0 ≤ tree_size (tree e)
deep_le_size (Assign at name t) = omega arith
deep_le_size (Dispatch at t name ts) = omega arith
deep_le_size (StaticDispatch at t class name ts) = omega arith
deep_le_size (If at t y n) = omega arith
deep_le_size (While at t b) = omega arith
deep_le_size (Block at ts) = omega arith
deep_le_size (Let at name declared None t) = omega arith
deep_le_size (Let at name declared (Some s) t) = omega arith
deep_le_size (Case at t ws) = omega (arith, one_le_size t)
deep_le_size (New at class) = omega arith
deep_le_size (IsVoid at t) = omega arith
deep_le_size (Arith at op a b) = omega arith
deep_le_size (Neg at t) = omega arith
deep_le_size (Compare at op a b) = omega arith
deep_le_size (Not at t) = omega arith
deep_le_size (Id at name) = omega arith
deep_le_size (Int at value) = omega arith
deep_le_size (Str at bytes) = omega arith
deep_le_size (Bool at value) = omega arith

-- no expression of a list has more nodes than all of them
pub most_le_size : (es : List Expr) → max (most deep-Expr es) 0 ≤ trees_size (of_list (map tree es))
most_le_size [] = omega arith
most_le_size (e ∷ es) = omega (arith, deep_le_size e, most_le_size es)

-- no branch has more nodes than all of them
pub most_twigs_le_size : (bs : List Branch) → max (most deep-Branch bs) 0 ≤ cases_size (of_twigs (map twig bs)) + 1
most_twigs_le_size [] = omega arith
most_twigs_le_size (b ∷ bs) = omega (arith, most_twigs_le_size bs)
