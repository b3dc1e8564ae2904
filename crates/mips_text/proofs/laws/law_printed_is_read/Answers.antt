use Rattle.mips_text.proofs.PrintedLines.{printed_is_read}
use Rattle.mips_text.proofs.laws.law_printed_is_read.Goals as goal

pub returns : goal.returns
returns c = printed_is_read
