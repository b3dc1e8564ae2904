-- Each run-time routine has the effect that `Means` of `Meanings.antt` defines, as the postcondition `meaning` of `routine` states. The fact does not depend on
-- the result of `routine`, so it holds also if memory runs out.
use Rattle.cool_runtime.proofs.MeaningsMet.{means}
use Rattle.cool_runtime.proofs.lines.routine.Goals as goal

pub returns-clause-meaning : goal.returns-clause-meaning
returns-clause-meaning c = λ w. means w c.args.routine

pub returns-in_err-add_routine-clause-meaning : goal.returns-in_err-add_routine-clause-meaning
returns-in_err-add_routine-clause-meaning c = λ w. means w c.args.routine
