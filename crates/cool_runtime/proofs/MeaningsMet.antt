-- Each run-time routine has the effect that `Means` of `Meanings.antt` defines for it.
use Rattle.cool_runtime.specs.Reaches.{World}
use Rattle.cool_runtime.specs.Labels.{dispatch_abort, div_abort, substr_abort, heap_limit, stack_limit}
use Rattle.cool_runtime.specs.RoutineLabels.{case_void, overflow_abort, dispatch_text, case_text, division_text, substring_text, overflow_text}
use Rattle.cool_runtime.specs.RoutineLines.{routine_lines}
use Rattle.cool_runtime.specs.Meanings.{Means}
use Rattle.cool_runtime.specs.declared.catalogue.Routine.{Routine}
use Rattle.cool_runtime.specs.declared.catalogue.Routine.TheVariants as routines
use Rattle.std.proofs.Common.{arith}
use Rattle.cool_runtime.proofs.Allocating.{limit_ends}
use Rattle.cool_runtime.proofs.Comparing.{compares}
use Rattle.cool_runtime.proofs.Copying.{copies}
use Rattle.cool_runtime.proofs.Cutting.{substr_cuts, substr_refuses}
use Rattle.cool_runtime.proofs.Errors.{error_ends}
use Rattle.cool_runtime.proofs.Joining.{concats}
use Rattle.cool_runtime.proofs.Measuring.{length_gives}
use Rattle.cool_runtime.proofs.Naming.{type_name_gives, abort_ends, no_branch_ends}
use Rattle.cool_runtime.proofs.Printing.{out_int_writes, out_string_writes}
use Rattle.cool_runtime.proofs.Reading.{in_int_reads}
use Rattle.cool_runtime.proofs.ReadingStrings.{in_string_reads}
use Rattle.cool_runtime.proofs.Starting.{starts}

-- the contract of each routine holds in every world
pub means : (w : World) (routine : Routine) → Means w routine
unfolding routine_lines
means w routines.Start = starts w
means w routines.Copy = copies w
means w routines.Abort = abort_ends w
means w routines.TypeName = type_name_gives w
means w routines.OutString = out_string_writes w
means w routines.OutInt = out_int_writes w
means w routines.InString = in_string_reads w
means w routines.InInt = in_int_reads w
means w routines.Length = length_gives w
means w routines.Concat = concats w
means w routines.Substr = (substr_cuts w, substr_refuses w)
means w routines.Equal = compares w
means w routines.DispatchVoid = error_ends w dispatch_abort dispatch_text
means w routines.CaseVoid = error_ends w case_void case_text
means w routines.NoBranch = no_branch_ends w
means w routines.DivZero = error_ends w div_abort division_text
means w routines.SubstrRange = error_ends w substr_abort substring_text
means w routines.Overflow = error_ends w overflow_abort overflow_text
means w routines.HeapLimit = λ p m c s has at begins. limit_ends w heap_limit 4 p m c s has (omega arith) at begins
means w routines.StackLimit = λ p m c s has at begins. limit_ends w stack_limit 5 p m c s has (omega arith) at begins
