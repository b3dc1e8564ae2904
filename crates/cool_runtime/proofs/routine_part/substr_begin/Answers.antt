-- `substr_begin` returns exactly the assembly code that `substr_begin_lines` of `Routines.antt` defines, which tests that a part lies within a String.
use Rattle.cool_runtime.specs.Labels.{string_substr, substr_abort}
use Rattle.cool_runtime.proofs.routine_part.substr_begin.Goals as goal

pub returns : goal.returns
unfolding string_substr substr_abort
returns c = cc
