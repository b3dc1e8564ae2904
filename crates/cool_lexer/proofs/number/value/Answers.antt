use Rattle.std.proofs.Common.{arith}
use Rattle.cool_lexer.proofs.Digits.{too_large}
use Rattle.cool_lexer.proofs.number.value.Goals as goal

pub returns-then-value-gt-MOST : goal.returns-then-value-gt-MOST
returns-then-value-gt-MOST c = too_large c.args.digits.now c.loop-byte.byte-index c.args.high c.loop-byte.value (omega arith) c.loop-byte.invariant.rest (omega arith)
