use Rattle.cool_lexer.proofs.OneReading.{one_cutting}
use Rattle.cool_lexer.proofs.laws.law_one_cutting.Goals as goal

pub returns : goal.returns
returns c = one_cutting
