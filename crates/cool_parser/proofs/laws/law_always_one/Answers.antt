use Rattle.cool_parser.proofs.ParsingIsTheGrammar.{file_or_first}
use Rattle.cool_parser.proofs.laws.law_always_one.Goals as goal

pub returns : goal.returns
returns c = file_or_first
