-- `before_break`, `moved` and `executed_in` count the instructions that a run executes before it stops: at its end, at a breakpoint, or when its budget is
-- spent.
use Rattle.std.specs.Prelude.{◌≡◌, ℕ, zero, suc, Bool, if◌then◌else◌, List, Option}
use Rattle.mips_isa.specs.Bytes.{Segments}
use Rattle.mips_isa.specs.Calls.{State, Outcome, Running, Exited, Trapped}
use Rattle.mips_isa.specs.Run.{cycle}
use Rattle.spim_machine.specs.declared.halt.Halt.{Halt}
use Rattle.spim_machine.specs.declared.halt.Halt.TheVariants.{Exit, Trap, StepLimit, ReadFault, WriteFault}
use Rattle.spim_machine.specs.declared.halt.Stopped.{Stopped}
use Rattle.spim_machine.specs.MachineStates.{MachineParts}
use Rattle.spim_machine.specs.Ends.{Ran}

-- an instruction, the one that exits or traps included, and those after it
abbrev pub counted : Outcome → (State → ℕ) → ℕ
counted (Running s) later = suc (later s)
counted (Exited code s) later = 1
counted (Trapped trap s) later = 1

-- the number of instructions before pc is a break address, of at most so many
abbrev pub before_break : (ℕ → Bool) → List ℕ → Segments → ℕ → State → ℕ
before_break breaks text b zero s = 0
before_break breaks text b (suc n) s = if breaks s.core.pc then 0 else counted (cycle text b s) (before_break breaks text b n)

-- the same, where the first instruction is executed at a break address, too
abbrev pub moved : (ℕ → Bool) → List ℕ → Segments → ℕ → State → ℕ
moved breaks text b zero s = 0
moved breaks text b (suc n) s = counted (cycle text b s) (before_break breaks text b n)

-- the number of instructions of a run that ends within so many: all of them, or those up to a call that failed, which counts
abbrev pub executed_in : (text : List ℕ) (b : Segments) (n : ℕ) (s : State) (first : Option (List ℕ)) (halt : Halt)
    (m : MachineParts) (left held : Option (List ℕ)) → Ran text b n s first halt m left held → ℕ
executed_in text b n s first (Exit code) m left held ran = n
executed_in text b n s first (Trap trap) m left held ran = n
executed_in text b n s first StepLimit m left held ran = n
executed_in text b n s first ReadFault m left held (at, comes, failed) = suc comes.count
executed_in text b n s first WriteFault m left held (at, comes, failed) = suc comes.count

-- The stop of a run up to a break address, of at most n instructions from a state: as the run of the instructions that are executed, and with their number.
pub record RanTo (breaks : ℕ → Bool) (text : List ℕ) (b : Segments) (n : ℕ) (s : State) (first : Option (List ℕ)) (stopped : Stopped) (m : MachineParts) (left held : Option (List ℕ)) : Type 0 where
  pub ran : Ran text b (moved breaks text b n s) s first stopped.halt m left held
  pub executed : stopped.executed ≡ executed_in text b (moved breaks text b n s) s first stopped.halt m left held ran
