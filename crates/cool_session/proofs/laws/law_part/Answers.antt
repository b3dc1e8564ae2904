use Rattle.cool_session.proofs.OneExchange.{part_front}
use Rattle.cool_session.proofs.laws.law_part.Goals as goal

pub returns : goal.returns
returns c = λ input front replies end rest left. part_front input front replies end rest left
