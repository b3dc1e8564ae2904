-- `string_head` returns exactly the assembly code that `string_head_lines` of `Routines.antt` defines, which stores the head of a String of `$t5` bytes.
use Rattle.cool_runtime.specs.Labels.{string_prototype}
use Rattle.cool_runtime.proofs.piece.string_head.Goals as goal

pub returns : goal.returns
unfolding string_prototype
returns c = cc
