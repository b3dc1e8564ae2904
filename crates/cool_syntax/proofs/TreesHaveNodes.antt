-- A syntax tree has at least one node.
use Rattle.std.specs.Prelude.{◌≤◌}
use Rattle.std.proofs.Common.{arith}
use Rattle.cool_syntax.specs.Tree.{Tree, tree_size}
use Rattle.cool_syntax.specs.Tree as trees

pub one_le_size : (t : Tree) → 1 ≤ tree_size t
one_le_size (trees.leaf at form) = omega arith
one_le_size (trees.unary at form t) = omega arith
one_le_size (trees.binary at form a b) = omega arith
one_le_size (trees.call at form t ts) = omega arith
one_le_size (trees.If at t y n) = omega arith
one_le_size (trees.Block at ts) = omega arith
one_le_size (trees.Let at name declared o t) = omega arith
one_le_size (trees.Case at t cs) = omega arith
