use Rattle.cool_simulation.proofs.theorem.AcceptedPrograms.{images_mean}
use Rattle.cool_simulation.proofs.laws.law_means.Goals as goal

pub returns : goal.returns
returns c = images_mean
