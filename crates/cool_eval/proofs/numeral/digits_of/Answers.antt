use Rattle.cool_eval.proofs.WrappedDigits.{digit_read}
use Rattle.cool_eval.proofs.numeral.digits_of.Goals as goal

pub loop-byte-preserved : goal.loop-byte-preserved
loop-byte-preserved c = digit_read c.args.text.now c.loop-byte.byte-index c.loop-byte.number c.from.result _ c.loop-byte-test.true c.if-byte-lt48.false c.if-byte-gt57.false c.from.ensures c.loop-byte.invariant
