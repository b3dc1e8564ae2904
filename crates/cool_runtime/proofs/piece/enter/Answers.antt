-- `enter` returns exactly the assembly code that `enter_lines` of `CodeOfCalls.antt` defines, which makes the stack frame of a call.
use Rattle.cool_runtime.specs.Labels.{stack_limit}
use Rattle.cool_runtime.proofs.piece.enter.Goals as goal

pub returns : goal.returns
unfolding stack_limit
returns c = cc
