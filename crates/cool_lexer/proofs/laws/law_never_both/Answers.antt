use Rattle.cool_lexer.proofs.OneReading.{never_both}
use Rattle.cool_lexer.proofs.laws.law_never_both.Goals as goal

pub returns : goal.returns
returns c = never_both
