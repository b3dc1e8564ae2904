use Rattle.cool_faults.proofs.AlwaysOneVerdict.{always_one_verdict}
use Rattle.cool_faults.proofs.laws.law_one_verdict_at_least.Goals as goal

pub returns : goal.returns
returns c = λ files few small. always_one_verdict files few small
