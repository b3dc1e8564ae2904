use Rattle.cool_simulation.proofs.theorem.AcceptedPrograms.{accepted_compile, compiled_mean}
use Rattle.cool_simulation.proofs.laws.law_typed_means.Goals as goal

pub returns : goal.returns
returns c = record { accepted = accepted_compile; means = compiled_mean }
