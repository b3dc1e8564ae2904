-- The results of system calls and of runs of the machine, if a read of the input (a source) or a write of the output (a sink) may fail.
use Rattle.std.specs.Prelude.{◌≡◌, ℕ, ◌-◌, ◌<◌, ◌==◌, true, false, if◌then◌else◌, List, [], ◌++◌, Option, Some, Result, Ok, Err}
use Rattle.cool_ports.specs.Counts.{Rose}
use Rattle.cool_ports.specs.SinkBytes.{appended, GotPrefix}
use Rattle.mips_isa.specs.declared.system_call.TheConstants.{READ_STRING}
use Rattle.mips_isa.specs.Bytes.{Segments}
use Rattle.mips_isa.specs.Machine.{Core, Call, step}
use Rattle.mips_isa.specs.Calls.{State, Outcome, Running, Exited, Trapped, asked, set_bytes, v0, a0, a1, call, print}
use Rattle.mips_isa.specs.Run.{cycle, run}
use Rattle.spim_machine.specs.declared.halt.Halt.{Halt}
use Rattle.spim_machine.specs.declared.halt.Halt.TheVariants.{Exit, Trap, StepLimit, ReadFault, WriteFault}
use Rattle.spim_machine.specs.MachineStates.{MachineParts, state_of, IsIn, HasParts}

-- The count of faults that rose: of the source (s, then s') and of the sink (k, then k').
abbrev pub Counted : Halt → ℕ → ℕ → ℕ → ℕ → Type 0
Counted (Exit code) s s' k k' = (s' ≡ s) × (k' ≡ k)
Counted (Trap trap) s s' k k' = (s' ≡ s) × (k' ≡ k)
Counted StepLimit s s' k k' = (s' ≡ s) × (k' ≡ k)
Counted ReadFault s s' k k' = Rose s s' × (k' ≡ k)
Counted WriteFault s s' k k' = (s' ≡ s) × Rose k k'

-- The same for an instruction, which does not spend the budget.
abbrev pub CountedIf : Result Unit Halt → ℕ → ℕ → ℕ → ℕ → Type 0
CountedIf (Ok done) s s' k k' = (s' ≡ s) × (k' ≡ k)
CountedIf (Err StepLimit) s s' k k' = ⊥
CountedIf (Err halt) s s' k k' = Counted halt s s' k k'

-- the end of the input was met
abbrev pub MetEnd : Outcome → Type 0
MetEnd (Running s) = s.ended ≡ true
MetEnd (Exited code s) = ⊥
MetEnd (Trapped trap s) = ⊥

-- A call that does `does input` with its input took a part of it, and then a take failed: with only that part it would have met the end. It put nothing.
pub record FailsReading (does : List ℕ → Outcome) (s : State) (first left held : Option (List ℕ)) : Type 0 where
  pub not_ended : s.ended ≡ false
  pub front : List ℕ
  pub rest : List ℕ
  pub cut : s.input ≡ front ++ rest
  pub asks : MetEnd (does front)
  pub left_is : left ≡ Some rest
  pub held_is : held ≡ appended first s.output

-- A call that prints put a prefix of its bytes, and then a put failed. It took nothing.
pub record FailsWriting (does : List ℕ → Outcome) (s : State) (first left held : Option (List ℕ)) : Type 0 where
  pub bytes : List ℕ
  pub prints : does s.input ≡ print s bytes
  pub left_is : left ≡ Some s.input
  pub held_is : GotPrefix (appended first s.output) bytes held

-- The bytes that a call has stored of this front of its input, before it asks for one more byte: read_string all that it got, the others none.
abbrev pub stores_none : State → List ℕ → List ℕ
stores_none s front = []

abbrev pub stores_string : State → List ℕ → List ℕ
stores_string s front = (asked s.ended (a1 s - 1) front).got

-- the call in $v0
abbrev pub call_stores : State → List ℕ → List ℕ
call_stores s front = if v0 s == READ_STRING then stores_string s front else stores_none s front

-- the state with these bytes stored at $a0
abbrev pub with_stored : State → List ℕ → State
with_stored s bytes = record s { core = record s.core { memory = set_bytes s.core.memory (a0 s) bytes } }

-- A read failed in a call that stores `stores front` of a front of its input: just that was stored. pc stands after the call.
abbrev pub ReadFailed : (List ℕ → Outcome) → (List ℕ → List ℕ) → State → Option (List ℕ) → MachineParts → Option (List ℕ)
    → Option (List ℕ) → Type 0
ReadFailed does stores s first m left held =
    (fails : FailsReading does s first left held) × HasParts (with_stored s (stores fails.front)) m

-- A write failed in a call: the machine is as the call found it. pc stands after the call.
abbrev pub WriteFailed : (List ℕ → Outcome) → State → Option (List ℕ) → MachineParts → Option (List ℕ) → Option (List ℕ) → Type 0
WriteFailed does s first m left held = FailsWriting does s first left held × HasParts s m

-- A result of a call in a state that does `does input` with its input, and stores `stores front` of a front of it: what the definition
-- says, with the machine in the state that it left, or a fault.
abbrev pub IsResultIn : (List ℕ → Outcome) → (List ℕ → List ℕ) → State → Option (List ℕ) → Result Unit Halt → MachineParts
    → Option (List ℕ) → Option (List ℕ) → Type 0
IsResultIn does stores s first (Ok done) m left held = (next : State) × (does s.input ≡ Running next) × IsIn first next m left held
IsResultIn does stores s first (Err (Exit code)) m left held = (next : State) × (does s.input ≡ Exited code next) × IsIn first next m left held
IsResultIn does stores s first (Err (Trap trap)) m left held = (next : State) × (does s.input ≡ Trapped trap next) × IsIn first next m left held
IsResultIn does stores s first (Err ReadFault) m left held = ReadFailed does stores s first m left held
IsResultIn does stores s first (Err WriteFault) m left held = WriteFailed does s first m left held
IsResultIn does stores s first (Err StepLimit) m left held = ⊥

-- A result of a call that does `does s` in the state s, in which machine, source and sink are, and stores `stores s front` of a front of
-- the input.
abbrev pub IsResultOf : (State → Outcome) → (State → List ℕ → List ℕ) → MachineParts → Option (List ℕ) → Option (List ℕ)
    → Result Unit Halt → MachineParts → Option (List ℕ) → Option (List ℕ) → Type 0
IsResultOf does stores old left held result new left' held' =
    (input output : List ℕ) (first : Option (List ℕ)) → left ≡ Some input → held ≡ appended first output
    → IsResultIn (λ given. does (state_of old given output)) (stores (state_of old input output))
    (state_of old input output) first result new left' held'

-- the call in $v0, with this input
abbrev pub call_with : Segments → State → List ℕ → Outcome
call_with b s input = call b (record s { input = input })

-- The outcome of an instruction, and of the system call that it may be.
abbrev pub Cycled : List ℕ → Segments → State → Option (List ℕ) → Result Unit Halt → MachineParts → Option (List ℕ)
    → Option (List ℕ) → Type 0
Cycled text b s first (Ok done) m left held = (next : State) × (cycle text b s ≡ Running next) × IsIn first next m left held
Cycled text b s first (Err (Exit code)) m left held = (next : State) × (cycle text b s ≡ Exited code next) × IsIn first next m left held
Cycled text b s first (Err (Trap trap)) m left held = (next : State) × (cycle text b s ≡ Trapped trap next) × IsIn first next m left held
Cycled text b s first (Err ReadFault) m left held =
    (core : Core) × (step text b s.core ≡ Call core)
    × ReadFailed (call_with b (record s { core = core })) (call_stores (record s { core = core })) (record s { core = core }) first m left held
Cycled text b s first (Err WriteFault) m left held =
    (core : Core) × (step text b s.core ≡ Call core) × WriteFailed (call_with b (record s { core = core })) (record s { core = core }) first m left held
Cycled text b s first (Err StepLimit) m left held = ⊥

-- A run from a state comes to a system call before its n-th instruction is done; pc stands after the call.
pub record ComesToCall (text : List ℕ) (b : Segments) (n : ℕ) (s at : State) : Type 0 where
  pub count : ℕ
  pub below : count < n
  pub before : State
  pub runs : run text b count s ≡ Running before
  pub core : Core
  pub calls : step text b before.core ≡ Call core
  pub at_is : at ≡ record before { core = core }

-- The end of a run of n instructions from a state: as the definition says, with the machine in the state that it left, or with a fault in a system call to
-- which it comes.
abbrev pub Ran : List ℕ → Segments → ℕ → State → Option (List ℕ) → Halt → MachineParts → Option (List ℕ) → Option (List ℕ) → Type 0
Ran text b n s first (Exit code) m left held = (end : State) × (run text b n s ≡ Exited code end) × IsIn first end m left held
Ran text b n s first (Trap trap) m left held = (end : State) × (run text b n s ≡ Trapped trap end) × IsIn first end m left held
Ran text b n s first StepLimit m left held = (end : State) × (run text b n s ≡ Running end) × IsIn first end m left held
Ran text b n s first ReadFault m left held = (at : State) × ComesToCall text b n s at × ReadFailed (call_with b at) (call_stores at) at first m left held
Ran text b n s first WriteFault m left held = (at : State) × ComesToCall text b n s at × WriteFailed (call_with b at) at first m left held
