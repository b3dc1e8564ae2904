-- `equal_bytes` returns exactly the assembly code that `equal_bytes_lines` of `Routines.antt` defines, which compares the bytes of two Strings in a loop.
use Rattle.cool_runtime.specs.Labels.{equal_bytes, equal_false, equal_true}
use Rattle.cool_runtime.proofs.routine_part.equal_bytes.Goals as goal

pub returns : goal.returns
unfolding equal_bytes equal_false equal_true
returns c = cc
