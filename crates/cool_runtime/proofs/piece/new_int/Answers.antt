-- `new_int` returns exactly the assembly code that `new_int_lines` of `Routines.antt` defines, which allocates an Int with the value of `$t2`.
use Rattle.cool_runtime.specs.Labels.{heap_limit, int_prototype}
use Rattle.cool_runtime.proofs.piece.new_int.Goals as goal

pub returns : goal.returns
unfolding heap_limit int_prototype
returns c = cc
