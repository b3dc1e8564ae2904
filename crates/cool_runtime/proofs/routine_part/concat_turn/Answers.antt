-- `concat_turn` returns exactly the assembly code that `concat_turn_lines` of `Routines.antt` defines, which sets the registers to copy the second of two
-- Strings.
use Rattle.cool_runtime.specs.Labels.{concat_second}
use Rattle.cool_runtime.proofs.routine_part.concat_turn.Goals as goal

pub returns : goal.returns
unfolding concat_second
returns c = cc
