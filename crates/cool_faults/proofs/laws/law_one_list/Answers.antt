use Rattle.cool_faults.proofs.OneVerdict.{one_list}
use Rattle.cool_faults.proofs.laws.law_one_list.Goals as goal

pub returns : goal.returns
returns c = one_list
