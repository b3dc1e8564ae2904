-- `NoneEnds` and `Ends` say whether the operator on the top of the parser's stack has at least a given binding level. Such an operator has all its operands,
-- and is replaced by a node. The code tests one stack entry at a time, by `ended` of ParsingMachine.antt.
use Rattle.std.specs.Prelude.{◌≡◌, ℕ, List, [], ◌∷◌, Some, None}
use Rattle.cool_syntax.specs.declared.node.NodeId.{NodeId}
use Rattle.cool_syntax.specs.declared.node.Node.{Node}
use Rattle.cool_parser.specs.declared.item.Item.{Item}
use Rattle.cool_parser.specs.ParsingMachine.{ended}

-- no operator of at least this level is on the top
abbrev pub NoneEnds : ℕ → NodeId → List Item → Type 0
NoneEnds k t [] = Unit {0}
NoneEnds k t (i ∷ st) = ended k i t ≡ None

-- the top is an operator of at least this level: it is popped, and makes this node of its operand
pub record Ends (k : ℕ) (t : NodeId) (before after : List Item) (n : Node) : Type 0 where
  pub item : Item
  pub top : before ≡ item ∷ after
  pub node : ended k item t ≡ Some n
