use Rattle.cool_faults.proofs.EarlyVerdicts.{never_both_untyped}
use Rattle.cool_faults.proofs.laws.law_never_both_untyped.Goals as goal

pub returns : goal.returns
returns c = never_both_untyped
