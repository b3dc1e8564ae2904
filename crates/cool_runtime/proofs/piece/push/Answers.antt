-- `push` returns exactly the assembly code that `push_lines` of `Routines.antt` defines, which pushes `$a0` on the stack.
use Rattle.cool_runtime.specs.Labels.{stack_limit}
use Rattle.cool_runtime.proofs.piece.push.Goals as goal

pub returns : goal.returns
unfolding stack_limit
returns c = cc
