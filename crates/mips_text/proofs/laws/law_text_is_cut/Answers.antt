use Rattle.mips_text.proofs.CutTexts.{text_is_cut}
use Rattle.mips_text.proofs.laws.law_text_is_cut.Goals as goal

pub returns : goal.returns
returns c = text_is_cut
