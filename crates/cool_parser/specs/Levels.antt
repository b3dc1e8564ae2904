-- The binding levels of Cool's operators (manual, section 11.1), from low to high: 0 `let`, 1 `<-`, 2 `not`, 3 comparisons, 4 `+ -`, 5 `* /`, 6 `isvoid`, 7
-- `~`.
use Rattle.std.specs.Prelude.{ℕ, Option, Some, None}
use Rattle.cool_syntax.specs.declared.token.TokenKind.{TokenKind}
use Rattle.cool_syntax.specs.declared.token.TokenKind.TheVariants as kind
use Rattle.cool_syntax.specs.declared.token.Sign.TheVariants as sign
use Rattle.cool_syntax.specs.declared.operator.ArithOp.TheVariants.{Add, Sub, Mul, Div}
use Rattle.cool_syntax.specs.declared.operator.CompareOp.TheVariants.{Less, LessEqual, Equal}
use Rattle.cool_parser.specs.declared.operator.Infix.{Infix}
use Rattle.cool_parser.specs.declared.operator.Infix.TheVariants.{Arith, Compare}
use Rattle.cool_parser.specs.declared.operator.Prefix.{Prefix}
use Rattle.cool_parser.specs.declared.operator.Prefix.TheVariants.{Not, IsVoid, Neg}

-- the operator that a token is
abbrev pub infix_of : TokenKind → Option Infix
infix_of (kind.Sign sign.Plus) = Some (Arith Add)
infix_of (kind.Sign sign.Minus) = Some (Arith Sub)
infix_of (kind.Sign sign.Star) = Some (Arith Mul)
infix_of (kind.Sign sign.Slash) = Some (Arith Div)
infix_of (kind.Sign sign.Less) = Some (Compare Less)
infix_of (kind.Sign sign.LessEqual) = Some (Compare LessEqual)
infix_of (kind.Sign sign.Equal) = Some (Compare Equal)
infix_of _ = None

abbrev pub infix_level : Infix → ℕ
infix_level (Compare op) = 3
infix_level (Arith Add) = 4
infix_level (Arith Sub) = 4
infix_level (Arith Mul) = 5
infix_level (Arith Div) = 5

-- the least level of an operator that the left operand may end with
abbrev pub left_level : Infix → ℕ
left_level (Compare op) = 4
left_level (Arith op) = infix_level (Arith op)

abbrev pub prefix_level : Prefix → ℕ
prefix_level Not = 2
prefix_level IsVoid = 6
prefix_level Neg = 7
