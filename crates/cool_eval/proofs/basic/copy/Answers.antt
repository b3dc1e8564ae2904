use Rattle.cool_eval.proofs.basic.copy.Goals as goal

pub returns-in-Object-clause-value : goal.returns-in-Object-clause-value
returns-in-Object-clause-value c = λ p input output n. rw c.in-Object.is (c.copy_object.ensures.value p input output n)
