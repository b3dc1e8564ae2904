use Rattle.cool_session.proofs.SessionsEnd.{exchange_at_least}
use Rattle.cool_session.proofs.laws.law_one_exchange_at_least.Goals as goal

pub returns : goal.returns
returns c = exchange_at_least c.law_one_verdict_at_least.ensures
