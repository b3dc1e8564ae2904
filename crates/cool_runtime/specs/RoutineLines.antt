-- `routine_lines` gives the assembly lines of a run-time routine, and `all_routine_lines` those of all routines, in the order in which they are in a compiled
-- program.
use Rattle.std.specs.Prelude.{List, ◌++◌}
use Rattle.mips_isa.specs.Lines.{Line}
use Rattle.cool_runtime.specs.Labels.{substr_abort, dispatch_abort, div_abort}
use Rattle.cool_runtime.specs.RoutineLabels.{case_void, overflow_abort, dispatch_text, case_text, division_text, substring_text, overflow_text}
use Rattle.cool_runtime.specs.Routines.{in_string_lines, copy_lines, out_string_lines, out_int_lines, in_int_lines, length_lines, concat_lines, substr_lines, equal_lines, error_lines, start_lines, type_name_lines, abort_lines, no_branch_lines, heap_limit_lines, stack_limit_lines}
use Rattle.cool_runtime.specs.declared.catalogue.Routine.{Routine}
use Rattle.cool_runtime.specs.declared.catalogue.Routine.TheVariants as routines

-- the lines of a routine
unfoldable pub routine_lines : Routine → List Line
routine_lines routines.Start = start_lines
routine_lines routines.Copy = copy_lines
routine_lines routines.Abort = abort_lines
routine_lines routines.TypeName = type_name_lines
routine_lines routines.OutString = out_string_lines
routine_lines routines.OutInt = out_int_lines
routine_lines routines.InString = in_string_lines
routine_lines routines.InInt = in_int_lines
routine_lines routines.Length = length_lines
routine_lines routines.Concat = concat_lines
routine_lines routines.Substr = substr_lines
routine_lines routines.Equal = equal_lines
routine_lines routines.DispatchVoid = error_lines dispatch_abort dispatch_text
routine_lines routines.CaseVoid = error_lines case_void case_text
routine_lines routines.NoBranch = no_branch_lines
routine_lines routines.DivZero = error_lines div_abort division_text
routine_lines routines.SubstrRange = error_lines substr_abort substring_text
routine_lines routines.Overflow = error_lines overflow_abort overflow_text
routine_lines routines.HeapLimit = heap_limit_lines
routine_lines routines.StackLimit = stack_limit_lines

-- all routines, one after the other

abbrev pub object_routines_lines : List Line
object_routines_lines = routine_lines routines.Start ++ (routine_lines routines.Copy ++ (routine_lines routines.Abort ++ (routine_lines routines.TypeName)))

abbrev pub io_routines_lines : List Line
io_routines_lines = routine_lines routines.OutString ++ (routine_lines routines.OutInt ++ (routine_lines routines.InString ++ (routine_lines routines.InInt)))

abbrev pub value_routines_lines : List Line
value_routines_lines = routine_lines routines.Length ++ (routine_lines routines.Concat ++ (routine_lines routines.Substr ++ (routine_lines routines.Equal)))

abbrev pub error_routines_lines : List Line
error_routines_lines = routine_lines routines.DispatchVoid ++ (routine_lines routines.CaseVoid ++ (routine_lines routines.NoBranch ++ (routine_lines routines.DivZero)))

abbrev pub limit_routines_lines : List Line
limit_routines_lines = routine_lines routines.SubstrRange ++ (routine_lines routines.Overflow ++ (routine_lines routines.HeapLimit ++ (routine_lines routines.StackLimit)))

abbrev pub all_routine_lines : List Line
all_routine_lines = object_routines_lines ++ (io_routines_lines ++ (value_routines_lines ++ (error_routines_lines ++ (limit_routines_lines))))
