-- `substr_size` returns exactly the assembly code that `substr_size_lines` of `Routines.antt` defines, which tests that the heap has room for a part of a
-- String.
use Rattle.cool_runtime.specs.Labels.{heap_limit}
use Rattle.cool_runtime.proofs.routine_part.substr_size.Goals as goal

pub returns : goal.returns
unfolding heap_limit
returns c = cc
