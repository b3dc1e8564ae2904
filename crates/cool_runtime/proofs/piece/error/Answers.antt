-- `error` returns exactly the assembly code that `error_lines` of `Routines.antt` defines, which writes a run-time error with its file and line, and exits with
-- status 3.
use Rattle.cool_runtime.specs.Labels.{colon_text}
use Rattle.cool_runtime.proofs.piece.error.Goals as goal

pub returns : goal.returns
unfolding colon_text
returns c = cc
