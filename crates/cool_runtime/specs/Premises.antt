-- `Limits` is an assumption of the proofs about run-time routines: the code that exits at the limits of heap and stack is in the text segment under its labels.
use Rattle.cool_runtime.specs.Reaches.{World}
use Rattle.cool_runtime.specs.Standing.{HasLines}
use Rattle.cool_runtime.specs.Labels.{heap_limit, stack_limit}
use Rattle.cool_runtime.specs.RoutineLines.{routine_lines}
use Rattle.cool_runtime.specs.declared.catalogue.Routine.TheVariants as routines

-- the limits' routines stand under their labels
pub record Limits (w : World) : Type 0 where
  pub heap : HasLines w (w.place heap_limit) (routine_lines routines.HeapLimit)
  pub stack : HasLines w (w.place stack_limit) (routine_lines routines.StackLimit)
