-- `out_int` returns exactly the assembly code that `out_int_lines` of `Routines.antt` defines, which prints the Int on top of the stack.
use Rattle.cool_runtime.specs.Labels.{out_int}
use Rattle.cool_runtime.proofs.routine_part.out_int.Goals as goal

pub returns : goal.returns
unfolding out_int
returns c = cc
