-- `MachineParts` is the simulated machine as contracts see it, and `IsIn` relates it, with its input and output, to a state of the machine's definition.
use Rattle.std.specs.Prelude.{◌≡◌, ℕ, Bool, List, Option, Some, None}
use Rattle.cool_ports.specs.SinkBytes.{appended}
use Rattle.mips_isa.specs.Calls.{State}
use Rattle.spim_cpu.specs.Cpu.{CpuParts, core_of, KeepsSegments}
use Rattle.spim_machine.specs.declared.halt.Halt.{Halt}
use Rattle.spim_machine.specs.declared.halt.Halt.TheVariants.{Exit, Trap, StepLimit, ReadFault, WriteFault}

-- `heap_break` is the end of what `sbrk` gave, `ended` says that the end of the input was answered, and `halted` how the
-- last run ended, unless it may go on.
pub record MachineParts : Type 0 where
  pub cpu : CpuParts
  pub heap_break : ℕ
  pub ended : Bool
  pub halted : Option Halt

-- the state, with this input left and this output
abbrev pub state_of : MachineParts → List ℕ → List ℕ → State
state_of m input output = record { core = core_of m.cpu; heap_break = m.heap_break; input = input; ended = m.ended; output = output }

-- The machine is in a state of the definition: its source has the state's input left, and its sink, which held `first`, got
-- the state's output.
pub record IsIn (first : Option (List ℕ)) (s : State) (m : MachineParts) (left held : Option (List ℕ)) : Type 0 where
  pub core : core_of m.cpu ≡ s.core
  pub heap_break : m.heap_break ≡ s.heap_break
  pub ended : m.ended ≡ s.ended
  pub input : left ≡ Some s.input
  pub output : held ≡ appended first s.output

-- The machine has the registers, the memory and the break of a state, and answered the end of the input or not as the state says.
pub record HasParts (s : State) (m : MachineParts) : Type 0 where
  pub core : core_of m.cpu ≡ s.core
  pub heap_break : m.heap_break ≡ s.heap_break
  pub ended : m.ended ≡ s.ended

-- No call changes the text, the bounds of the segments, or the result of a further run.
pub record Keeps (old new : MachineParts) : Type 0 where
  pub memory : KeepsSegments old.cpu.memory new.cpu.memory
  pub halted : new.halted ≡ old.halted

-- the result of a further run after one that ended so, if there is one
abbrev pub halted_by : Halt → Option Halt
halted_by StepLimit = None
halted_by (Exit code) = Some (Exit code)
halted_by (Trap trap) = Some (Trap trap)
halted_by ReadFault = Some ReadFault
halted_by WriteFault = Some WriteFault
