use Rattle.mips_text.proofs.OneReading.{never_both}
use Rattle.mips_text.proofs.laws.law_never_both.Goals as goal

pub returns : goal.returns
returns c = never_both
