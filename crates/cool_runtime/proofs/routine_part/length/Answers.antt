-- `length` returns exactly the assembly code that `length_lines` of `Routines.antt` defines, which returns the Int with the length of a String.
use Rattle.cool_runtime.specs.Labels.{string_length}
use Rattle.cool_runtime.proofs.routine_part.length.Goals as goal

pub returns : goal.returns
unfolding string_length
returns c = cc
