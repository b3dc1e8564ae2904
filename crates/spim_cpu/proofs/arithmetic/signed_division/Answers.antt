use Rattle.std.proofs.Common.{◌∙◌}
use Rattle.spim_cpu.proofs.SignedDivision.{remainder_is, quotient_is}
use Rattle.spim_cpu.proofs.arithmetic.signed_division.Goals as goal

pub returns-clause-hi : goal.returns-clause-hi
returns-clause-hi c =
    c.cast_unsigned.ensures
    ∙ remainder_is c.args.a c.args.b c.cast_signed-a.result c.cast_signed-b.result c.wrapping_rem.result c.ranges.a.fits c.ranges.b.fits c.cast_signed-a.ensures c.cast_signed-b.ensures c.wrapping_rem.ensures

pub returns-clause-lo : goal.returns-clause-lo
returns-clause-lo c =
    c.cast_unsigned-2.ensures
    ∙ quotient_is c.args.a c.args.b c.cast_signed-a.result c.cast_signed-b.result c.wrapping_div.result c.ranges.a.fits c.ranges.b.fits c.cast_signed-a.ensures c.cast_signed-b.ensures c.wrapping_div.ensures
