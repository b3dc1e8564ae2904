use Rattle.mips_isa.proofs.JoiningFields.{fields_joined}
use Rattle.mips_isa.proofs.encoding.with_low.Goals as goal

pub returns : goal.returns
returns c =
    rw (c.number.ensures.value, c.number-2.ensures.value) (fields_joined c.args.op c.args.rs c.args.rt c.args.low c.requires.code (rw c.number.ensures.value at c.number.ensures.below) (rw c.number-2.ensures.value at c.number-2.ensures.below) c.requires.half)
