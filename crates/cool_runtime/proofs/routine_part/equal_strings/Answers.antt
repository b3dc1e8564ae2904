-- `equal_strings` returns exactly the assembly code that `equal_strings_lines` of `Routines.antt` defines, which compares the lengths of two Strings.
use Rattle.cool_runtime.specs.Labels.{equal_false, equal_strings}
use Rattle.cool_runtime.proofs.routine_part.equal_strings.Goals as goal

pub returns : goal.returns
unfolding equal_false equal_strings
returns c = cc
