use Rattle.cool_session.proofs.OneExchange.{one_exchange}
use Rattle.cool_session.proofs.laws.law_one_exchange.Goals as goal

pub returns : goal.returns
returns c = one_exchange
