-- `start` returns exactly the assembly code that `start_lines` of `Routines.antt` defines, which makes an object of Main, calls its `main` and exits with
-- status 0.
use Rattle.cool_runtime.specs.Labels.{copy, end_text, main_init, main_main, main_prototype}
use Rattle.cool_runtime.proofs.routine_part.start.Goals as goal

pub returns : goal.returns
unfolding copy end_text main_init main_main main_prototype
returns c = cc
