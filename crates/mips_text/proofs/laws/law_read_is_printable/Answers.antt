use Rattle.mips_text.proofs.ReadLinesArePrintable.{reads_printable}
use Rattle.mips_text.proofs.laws.law_read_is_printable.Goals as goal

pub returns : goal.returns
returns c = reads_printable
