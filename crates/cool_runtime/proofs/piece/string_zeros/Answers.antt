-- `string_zeros` returns exactly the assembly code that `string_zeros_lines` of `Routines.antt` defines, which stores zeros in the last word of a String.
use Rattle.cool_runtime.proofs.piece.string_zeros.Goals as goal

pub returns : goal.returns
returns c = cc
