-- Predicates for the kind of a node, such as `IsDispatch`, and functions that return the operands of operators.
use Rattle.cool_syntax.specs.declared.node.Node.{Node}
use Rattle.cool_syntax.specs.declared.node.Node.TheVariants.{Assign, Dispatch, StaticDispatch, If, While, Block, Let, Case, IsVoid, Arith, Neg, Compare, Not}
use Rattle.cool_syntax.specs.declared.node.NodeId.{NodeId}

abbrev pub IsDispatch : Node → Type 0
IsDispatch (Dispatch at a name ids) = Unit {0}
IsDispatch _ = ⊥

abbrev pub IsStaticDispatch : Node → Type 0
IsStaticDispatch (StaticDispatch at a class name ids) = Unit {0}
IsStaticDispatch _ = ⊥

abbrev pub IsConditional : Node → Type 0
IsConditional (If at a b c) = Unit {0}
IsConditional _ = ⊥

abbrev pub IsLoop : Node → Type 0
IsLoop (While at a b) = Unit {0}
IsLoop _ = ⊥

abbrev pub IsBlock : Node → Type 0
IsBlock (Block at ids) = Unit {0}
IsBlock _ = ⊥

abbrev pub IsLet : Node → Type 0
IsLet (Let at name declared o a) = Unit {0}
IsLet _ = ⊥

abbrev pub IsCase : Node → Type 0
IsCase (Case at a bs) = Unit {0}
IsCase _ = ⊥

-- the part of an assignment or of an operator with one operand; for other nodes, an arbitrary number
abbrev pub operand : Node → NodeId
operand (Assign at name a) = a
operand (IsVoid at a) = a
operand (Neg at a) = a
operand (Not at a) = a
operand _ = record { 0 = 0 }

-- the parts of an operator with two operands; for other nodes, arbitrary numbers
abbrev pub left_operand : Node → NodeId
left_operand (Arith at op a b) = a
left_operand (Compare at op a b) = a
left_operand _ = record { 0 = 0 }

abbrev pub right_operand : Node → NodeId
right_operand (Arith at op a b) = b
right_operand (Compare at op a b) = b
right_operand _ = record { 0 = 0 }
