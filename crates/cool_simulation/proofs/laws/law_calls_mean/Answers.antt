use Rattle.cool_simulation.proofs.calls.AllCalls.{all_calls_correct}
use Rattle.cool_simulation.proofs.laws.law_calls_mean.Goals as goal

pub returns : goal.returns
returns c = λ l loaded written n. all_calls_correct l loaded written n
