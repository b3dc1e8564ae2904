-- `int_head` returns exactly the assembly code that `int_head_lines` of `Routines.antt` defines, which stores an Int with the value of `$t5` at the next free
-- heap address, `$gp`.
use Rattle.cool_runtime.specs.Labels.{int_prototype}
use Rattle.cool_runtime.proofs.piece.int_head.Goals as goal

pub returns : goal.returns
unfolding int_prototype
returns c = cc
