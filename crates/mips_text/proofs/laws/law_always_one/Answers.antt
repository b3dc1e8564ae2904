use Rattle.mips_text.proofs.OneReading.{always_one}
use Rattle.mips_text.proofs.laws.law_always_one.Goals as goal

pub returns : goal.returns
returns c = always_one
