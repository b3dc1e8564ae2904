-- `return_call` returns exactly the assembly code that `return_lines` of `Routines.antt` defines, which returns from a call.
use Rattle.cool_runtime.proofs.routine_part.return_call.Goals as goal

pub returns : goal.returns
returns c = cc
