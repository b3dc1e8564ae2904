use Rattle.spim_debug.proofs.Disassembled.{text_again}
use Rattle.spim_debug.proofs.laws.law_disassembly.Goals as goal

pub returns-clause-text : goal.returns-clause-text
returns-clause-text c = text_again
