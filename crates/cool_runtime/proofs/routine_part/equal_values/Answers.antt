-- `equal_values` returns exactly the assembly code that `equal_values_lines` of `Routines.antt` defines, which compares the values of two Ints or Bools.
use Rattle.cool_runtime.specs.Labels.{equal_false, equal_true, equal_values}
use Rattle.cool_runtime.proofs.routine_part.equal_values.Goals as goal

pub returns : goal.returns
unfolding equal_false equal_true equal_values
returns c = cc
