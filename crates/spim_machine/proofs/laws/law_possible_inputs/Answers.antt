use Rattle.cool_ports.proofs.InputsInParts.{leaves_none, leaves_told}
use Rattle.spim_machine.proofs.laws.law_possible_inputs.Goals as goal

pub returns-clause-some : goal.returns-clause-some
returns-clause-some c = leaves_none

pub returns-clause-told : goal.returns-clause-told
returns-clause-told c = leaves_told
