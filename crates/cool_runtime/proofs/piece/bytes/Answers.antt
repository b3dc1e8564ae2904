-- `bytes` returns exactly the assembly code that `bytes_lines` of `Routines.antt` defines, which copies `$t3` bytes from `$t2` to `$t4` in a loop.
use Rattle.cool_runtime.proofs.piece.bytes.Goals as goal

pub returns : goal.returns
returns c = cc
