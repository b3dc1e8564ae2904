use Rattle.cool_simulation.proofs.theorem.RunsMet.{runs_met}
use Rattle.cool_simulation.proofs.theorem.Simulated.{always_runs}
use Rattle.cool_simulation.proofs.laws.law_always_runs.Goals as goal

pub returns : goal.returns
returns c = record { met = runs_met; anywhere = λ p names written. always_runs p names written }
