use Rattle.std.proofs.Common.{◌∙◌, ap}
use Rattle.mips_isa.specs.Words.{fields}
use Rattle.mips_isa.proofs.JoiningFields.{low_fields_joined}
use Rattle.mips_isa.proofs.encoding.op_zero.Goals as goal

pub returns : goal.returns
returns c =
    c.with_low.ensures
    ∙ ap (λ low. fields 0 c.args.rs c.args.rt low)
    (rw c.number.ensures.value (low_fields_joined c.args.rd c.args.sh c.args.function (rw c.number.ensures.value at c.number.ensures.below) c.requires.shift c.requires.small))
