-- `Region` is an arena of syntax tree nodes as contracts see it, and `Filled` an array with one value for each node: the entries in order, and the free or
-- whole capacity.
use Rattle.std.specs.Prelude.{ℕ, List}
use Rattle.cool_syntax.specs.declared.node.Node.{Node}

-- the nodes, in the order of their numbers, and the number of nodes that can still be placed without taking memory
pub record Region : Type 0 where
  pub nodes : List Node
  pub spare : ℕ

-- the values of the first nodes, in the order of their numbers, and the number of values that the column can hold in all
pub record Filled (T : Type 0) : Type 0 where
  pub held : List T
  pub room : ℕ
