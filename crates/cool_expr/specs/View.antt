-- `tree` converts an expression in memory to the syntax tree that contracts see (Tree.antt of `cool_syntax`).
use Rattle.cool_expr.specs.declared.expr.Expr.{Expr}
use Rattle.cool_expr.specs.declared.expr.Expr.TheVariants as variants
use Rattle.cool_expr.specs.declared.expr.Branch.{Branch}
use Rattle.cool_syntax.specs.Tree.{Tree, Twig, of_list, of_option, of_twigs}
use Rattle.cool_syntax.specs.Tree as trees

abbrev pub tree : Expr → Tree
tree (variants.Assign at name t) = trees.Assign at name t
tree (variants.Dispatch at t name ts) = trees.Dispatch at t name (of_list ts)
tree (variants.StaticDispatch at t class name ts) = trees.StaticDispatch at t class name (of_list ts)
tree (variants.If at t y n) = trees.If at t y n
tree (variants.While at t b) = trees.While at t b
tree (variants.Block at ts) = trees.Block at (of_list ts)
tree (variants.Let at name declared o t) = trees.Let at name declared (of_option o) t
tree (variants.Case at t ws) = trees.Case at t (of_twigs ws)
tree (variants.New at class) = trees.New at class
tree (variants.IsVoid at t) = trees.IsVoid at t
tree (variants.Arith at op a b) = trees.Arith at op a b
tree (variants.Neg at t) = trees.Neg at t
tree (variants.Compare at op a b) = trees.Compare at op a b
tree (variants.Not at t) = trees.Not at t
tree (variants.Id at name) = trees.Id at name
tree (variants.Int at value) = trees.Int at value
tree (variants.Str at bytes) = trees.Str at bytes
tree (variants.Bool at value) = trees.Bool at value

-- a branch as a twig
abbrev pub twig : Branch → Twig
twig b = record { at = b.at; name = b.name; declared = b.declared; body = b.body }
