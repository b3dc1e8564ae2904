use Rattle.spim_machine.proofs.PutsAreOutput.{run_adds}
use Rattle.spim_machine.proofs.laws.law_puts_are_output.Goals as goal

pub returns : goal.returns
returns c = record { added = run_adds }
