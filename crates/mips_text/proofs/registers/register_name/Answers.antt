use Rattle.mips_text.proofs.ReadingTables.{now_at}
use Rattle.mips_text.proofs.registers.register_name.Goals as goal

pub returns : goal.returns
returns c = rw (now_at, c.number.ensures.value)
