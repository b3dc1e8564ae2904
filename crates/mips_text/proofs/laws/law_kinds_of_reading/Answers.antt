use Rattle.mips_text.proofs.KindsOfReading.{kind_of_reading}
use Rattle.mips_text.proofs.laws.law_kinds_of_reading.Goals as goal

pub returns : goal.returns
returns c = kind_of_reading
