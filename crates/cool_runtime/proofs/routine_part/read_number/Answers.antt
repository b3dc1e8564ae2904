-- `read_number` returns exactly the assembly code that `read_number_lines` of `Routines.antt` defines, which reads a number from the input into `$t2`.
use Rattle.cool_runtime.specs.Labels.{in_int}
use Rattle.cool_runtime.proofs.routine_part.read_number.Goals as goal

pub returns : goal.returns
unfolding in_int
returns c = cc
