use Rattle.cool_parser.proofs.ParsingIsTheGrammar.{one_tree}
use Rattle.cool_parser.proofs.laws.law_one_tree.Goals as goal

pub returns : goal.returns
returns c = one_tree
