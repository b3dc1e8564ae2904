-- `equal_false` returns exactly the assembly code that `equal_false_lines` of `Routines.antt` defines, which returns the Bool false.
use Rattle.cool_runtime.specs.Labels.{equal_false, false_constant}
use Rattle.cool_runtime.proofs.routine_part.equal_false.Goals as goal

pub returns : goal.returns
unfolding equal_false false_constant
returns c = cc
