use Rattle.cool_session.proofs.PartsOfSessions.{cut_part}
use Rattle.cool_session.proofs.laws.law_cut_short.Goals as goal

pub returns : goal.returns
returns c = cut_part
