use Rattle.cool_eval.proofs.PutsAreOutput.{puts_whole}
use Rattle.cool_eval.proofs.laws.law_puts_are_output.Goals as goal

pub returns : goal.returns
returns c = puts_whole
