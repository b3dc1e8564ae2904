use Rattle.cool_lexer.proofs.OneReading.{one_first_fault}
use Rattle.cool_lexer.proofs.laws.law_one_first_fault.Goals as goal

pub returns : goal.returns
returns c = one_first_fault
