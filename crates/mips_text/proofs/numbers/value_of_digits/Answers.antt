use Rattle.std.proofs.Common.{arith}
use Rattle.mips_text.proofs.CappedNumbers.{capped_more}
use Rattle.mips_text.proofs.numbers.value_of_digits.Goals as goal

pub loop-digit-preserved : goal.loop-digit-preserved
loop-digit-preserved c = record {
  small = omega arith;
  rest = capped_more c.args.base _ c.loop-digit.number c.min-number.result c.loop-digit.digit-index _ c.args.digits.now c.requires.least c.loop-digit-test.true (grind arith) c.loop-digit.invariant.rest;
}
