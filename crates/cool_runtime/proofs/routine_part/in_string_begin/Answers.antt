-- `in_string_begin` returns exactly the assembly code that `in_string_begin_lines` of `Routines.antt` defines, which tests that the heap has room for a String
-- without bytes.
use Rattle.cool_runtime.specs.Labels.{heap_limit, in_string}
use Rattle.cool_runtime.proofs.routine_part.in_string_begin.Goals as goal

pub returns : goal.returns
unfolding heap_limit in_string
returns c = cc
