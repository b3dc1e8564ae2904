use Rattle.cool_faults.proofs.OneVerdict.{one_program}
use Rattle.cool_faults.proofs.laws.law_one_program.Goals as goal

pub returns : goal.returns
returns c = one_program
