use Rattle.mips_text.proofs.OneReading.{one_reading}
use Rattle.mips_text.proofs.laws.law_one_reading.Goals as goal

pub returns : goal.returns
returns c = one_reading
