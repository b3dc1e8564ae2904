use Rattle.spim_machine.proofs.RunsGoOn.{ran_on, ran_ended}
use Rattle.spim_machine.proofs.laws.law_two_budgets.Goals as goal

pub returns-clause-spent : goal.returns-clause-spent
returns-clause-spent c = ran_on

pub returns-clause-ended : goal.returns-clause-ended
returns-clause-ended c = ran_ended
