use Rattle.cool_parser.proofs.ParsingIsTheGrammar.{file_or_fault}
use Rattle.cool_parser.proofs.laws.law_never_both.Goals as goal

pub returns : goal.returns
returns c = file_or_fault
