use Rattle.mips_text.proofs.OneReading.{one_first_fault}
use Rattle.mips_text.proofs.laws.law_one_first_fault.Goals as goal

pub returns : goal.returns
returns c = one_first_fault
