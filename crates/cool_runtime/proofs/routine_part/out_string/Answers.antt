-- `out_string` returns exactly the assembly code that `out_string_lines` of `Routines.antt` defines, which prints the String on top of the stack.
use Rattle.cool_runtime.specs.Labels.{out_string}
use Rattle.cool_runtime.proofs.routine_part.out_string.Goals as goal

pub returns : goal.returns
unfolding out_string
returns c = cc
