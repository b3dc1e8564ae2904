use Rattle.cool_faults.proofs.OneVerdict.{never_both_verdicts}
use Rattle.cool_faults.proofs.laws.law_never_both.Goals as goal

pub returns : goal.returns
returns c = never_both_verdicts
