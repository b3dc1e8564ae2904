-- `equal_true` returns exactly the assembly code that `equal_true_lines` of `Routines.antt` defines, which returns the Bool true.
use Rattle.cool_runtime.specs.Labels.{equal_true, true_constant}
use Rattle.cool_runtime.proofs.routine_part.equal_true.Goals as goal

pub returns : goal.returns
unfolding equal_true true_constant
returns c = cc
