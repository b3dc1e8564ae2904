-- `in_string_end` returns exactly the assembly code that `in_string_end_lines` of `Routines.antt` defines, which computes the length of the line that was read.
use Rattle.cool_runtime.specs.Labels.{in_string_end}
use Rattle.cool_runtime.proofs.routine_part.in_string_end.Goals as goal

pub returns : goal.returns
unfolding in_string_end
returns c = cc
