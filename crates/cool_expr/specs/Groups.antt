-- Groups of expressions: calls, bindings, control, unary, binary and leaf expressions. A function over all kinds of expressions can thus be divided into one
-- function for each group.
use Rattle.cool_expr.specs.declared.expr.Expr.{Expr}
use Rattle.cool_expr.specs.declared.expr.Expr.TheVariants.{Assign, Dispatch, StaticDispatch, If, While, Block, Let, Case, New, IsVoid, Arith, Neg, Compare, Not, Id, Int, Str, Bool}

-- dispatches
abbrev pub IsCall : Expr → Type 0
IsCall (Dispatch at t name ts) = Unit {0}
IsCall (StaticDispatch at t class name ts) = Unit {0}
IsCall _ = ⊥

-- bindings and cases
abbrev pub IsBinding : Expr → Type 0
IsBinding (Let at name declared o t) = Unit {0}
IsBinding (Case at t ws) = Unit {0}
IsBinding _ = ⊥

-- conditions, loops and blocks
abbrev pub IsControl : Expr → Type 0
IsControl (If at t y n) = Unit {0}
IsControl (While at t b) = Unit {0}
IsControl (Block at ts) = Unit {0}
IsControl _ = ⊥

-- assignments and prefix operators, which have one part
abbrev pub IsUnary : Expr → Type 0
IsUnary (Assign at name t) = Unit {0}
IsUnary (IsVoid at t) = Unit {0}
IsUnary (Neg at t) = Unit {0}
IsUnary (Not at t) = Unit {0}
IsUnary _ = ⊥

-- operators between two operands
abbrev pub IsBinary : Expr → Type 0
IsBinary (Arith at op a b) = Unit {0}
IsBinary (Compare at op a b) = Unit {0}
IsBinary _ = ⊥

-- expressions without parts
abbrev pub IsLeaf : Expr → Type 0
IsLeaf (New at class) = Unit {0}
IsLeaf (Id at name) = Unit {0}
IsLeaf (Int at value) = Unit {0}
IsLeaf (Str at bytes) = Unit {0}
IsLeaf (Bool at value) = Unit {0}
IsLeaf _ = ⊥
