use Rattle.cool_lexer.proofs.AlwaysOneReading.{always_one}
use Rattle.cool_lexer.proofs.laws.law_always_one.Goals as goal

pub returns : goal.returns
returns c = always_one
