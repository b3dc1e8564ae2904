-- `string_return` returns exactly the assembly code that `string_return_lines` of `Routines.antt` defines, which returns the String after `$gp` from a routine.
use Rattle.cool_runtime.proofs.piece.string_return.Goals as goal

pub returns : goal.returns
returns c = cc
