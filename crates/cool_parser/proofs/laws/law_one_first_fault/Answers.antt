use Rattle.cool_parser.proofs.ParsingIsTheGrammar.{one_fault}
use Rattle.cool_parser.proofs.laws.law_one_first_fault.Goals as goal

pub returns : goal.returns
returns c = one_fault
