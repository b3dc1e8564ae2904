-- `type_name` returns exactly the assembly code that `type_name_lines` of `Routines.antt` defines, which returns the name of an object's class.
use Rattle.cool_runtime.specs.Labels.{name_table, type_name}
use Rattle.cool_runtime.proofs.routine_part.type_name.Goals as goal

pub returns : goal.returns
unfolding name_table type_name
returns c = cc
