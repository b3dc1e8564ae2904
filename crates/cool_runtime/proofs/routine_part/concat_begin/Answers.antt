-- `concat_begin` returns exactly the assembly code that `concat_begin_lines` of `Routines.antt` defines, which loads the lengths of two Strings and tests that
-- the heap has room for their concatenation.
use Rattle.cool_runtime.specs.Labels.{heap_limit, string_concat}
use Rattle.cool_runtime.proofs.routine_part.concat_begin.Goals as goal

pub returns : goal.returns
unfolding heap_limit string_concat
returns c = cc
