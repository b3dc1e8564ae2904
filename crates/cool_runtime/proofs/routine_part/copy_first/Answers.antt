-- `copy_first` returns exactly the assembly code that `copy_first_lines` of `Routines.antt` defines, which tests that the heap has room for the copy of an
-- object.
use Rattle.cool_runtime.specs.Labels.{copy, heap_limit}
use Rattle.cool_runtime.proofs.routine_part.copy_first.Goals as goal

pub returns : goal.returns
unfolding copy heap_limit
returns c = cc
