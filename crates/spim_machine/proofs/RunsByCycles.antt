-- A machine that keeps its text and segments has the same outcome of an instruction as at the start of the run. Storing how the run ended changes neither its
-- result nor the count of instructions.
use Rattle.std.proofs.Common.{◌≡◌, ◌∙◌, refl, subst, ℕ, List, Option}
use Rattle.std.specs.Prelude.{Result}
use Rattle.mips_isa.specs.Bytes.{Segments}
use Rattle.mips_isa.specs.Calls.{State}
use Rattle.spim_memory.specs.Memory.{MemoryParts, segments}
use Rattle.spim_cpu.specs.Cpu.{KeepsSegments}
use Rattle.spim_machine.specs.declared.halt.Halt.{Halt}
use Rattle.spim_machine.specs.declared.halt.Halt.TheVariants as halts
use Rattle.spim_machine.specs.MachineStates.{MachineParts, IsIn, HasParts, Keeps}
use Rattle.spim_machine.specs.Ends.{Cycled, Ran}
use Rattle.spim_machine.specs.Counting.{executed_in}

-- parts that a machine keeps over two steps
pub kept_on : (old mid new : MachineParts) → Keeps old mid → Keeps mid new → Keeps old new
kept_on old mid new before behind = record {
  memory = record {
    text = behind.memory.text ∙ before.memory.text;
    segments = behind.memory.segments ∙ before.memory.segments;
  };
  halted = behind.halted ∙ before.halted;
}

-- the outcome of an instruction, by the text and the segments at the run's start
pub cycled_as : (old now : MemoryParts) (t : State) (first : Option (List ℕ)) (result : Result Unit Halt) (m : MachineParts)
    (left held : Option (List ℕ)) → KeepsSegments old now → Cycled now.text (segments now) t first result m left held
    → Cycled old.text (segments old) t first result m left held
cycled_as old now t first result m left held kept cycled =
    subst (λ (b : Segments). Cycled old.text b t first result m left held) kept.segments
    (subst (λ (text : List ℕ). Cycled text (segments now) t first result m left held) kept.text cycled)

-- a machine that notes how its run ended is in the same state, and its run ended the same
noted : (first : Option (List ℕ)) (s : State) (m : MachineParts) (left held : Option (List ℕ)) (halted : Option Halt)
    → IsIn first s m left held → IsIn first s (record m { halted = halted }) left held
noted first s m left held halted is = record { core = is.core; heap_break = is.heap_break; ended = is.ended; input = is.input; output = is.output }

parts_noted : (s : State) (m : MachineParts) (halted : Option Halt) → HasParts s m → HasParts s (record m { halted = halted })
parts_noted s m halted parts = record { core = parts.core; heap_break = parts.heap_break; ended = parts.ended }

pub ran_noted : (text : List ℕ) (b : Segments) (n : ℕ) (s : State) (first : Option (List ℕ)) (halt : Halt) (m : MachineParts)
    (left held : Option (List ℕ)) (halted : Option Halt) → Ran text b n s first halt m left held
    → Ran text b n s first halt (record m { halted = halted }) left held
ran_noted text b n s first (halts.Exit code) m left held halted (end, ends, is) = (end, ends, noted first end m left held halted is)
ran_noted text b n s first (halts.Trap trap) m left held halted (end, ends, is) = (end, ends, noted first end m left held halted is)
ran_noted text b n s first halts.StepLimit m left held halted (end, ends, is) = (end, ends, noted first end m left held halted is)
ran_noted text b n s first halts.ReadFault m left held halted (at, comes, (fails, parts)) = (at, comes, (fails, parts_noted _ m halted parts))
ran_noted text b n s first halts.WriteFault m left held halted (at, comes, (fails, parts)) = (at, comes, (fails, parts_noted _ m halted parts))

-- a machine that notes how its run ended has executed as many
pub noted_counts : (text : List ℕ) (b : Segments) (n : ℕ) (s : State) (first : Option (List ℕ)) (halt : Halt) (m : MachineParts)
    (left held : Option (List ℕ)) (halted : Option Halt) (ran : Ran text b n s first halt m left held)
    → executed_in text b n s first halt m left held ran ≡ executed_in text b n s first halt (record m { halted = halted }) left held (ran_noted text b n s first halt m left held halted ran)
unfolding ran_noted
noted_counts text b n s first (halts.Exit code) m left held halted ran = refl
noted_counts text b n s first (halts.Trap trap) m left held halted ran = refl
noted_counts text b n s first halts.StepLimit m left held halted ran = refl
noted_counts text b n s first halts.ReadFault m left held halted (at, comes, (fails, parts)) = refl
noted_counts text b n s first halts.WriteFault m left held halted (at, comes, (fails, parts)) = refl
