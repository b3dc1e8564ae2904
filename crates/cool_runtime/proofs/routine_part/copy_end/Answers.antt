-- `copy_end` returns exactly the assembly code that `copy_end_lines` of `Routines.antt` defines, which returns the copy of an object.
use Rattle.cool_runtime.specs.Labels.{copy_end}
use Rattle.cool_runtime.proofs.routine_part.copy_end.Goals as goal

pub returns : goal.returns
unfolding copy_end
returns c = cc
