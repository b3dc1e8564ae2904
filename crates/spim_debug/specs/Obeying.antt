-- `Stands` is the debugger's invariant between two commands of a script: the machine is in the state to which the commands so far lead. `Obeyed` is the outcome
-- of one command.
use Rattle.std.specs.Prelude.{◌≡◌, ℕ, ◌-◌, ◌≤◌, List, [], ◌∷◌, length, Option, Some, None, Result, Ok, Err}
use Rattle.cool_ports.specs.Counts.{Rose}
use Rattle.cool_ports.specs.SinkPuts.{SinkSeen, after_puts, PutSome}
use Rattle.mips_isa.specs.declared.address_map.TheConstants.{MOST_TEXT_WORDS}
use Rattle.mips_isa.specs.Calls.{Outcome, Running, Exited, Trapped}
use Rattle.spim_memory.specs.Memory.{segments}
use Rattle.spim_machine.specs.declared.halt.Halt.{Halt}
use Rattle.spim_machine.specs.declared.halt.Halt.TheVariants.{Exit, Trap, StepLimit, ReadFault, WriteFault}
use Rattle.spim_machine.specs.MachineStates.{IsIn}
use Rattle.spim_debug.specs.declared.debugger.DebugEnd.{DebugEnd}
use Rattle.spim_debug.specs.declared.debugger.DebugEnd.TheVariants as end
use Rattle.spim_debug.specs.declared.debugger.Debugger.{Debugger}
use Rattle.spim_debug.specs.declared.script.DebugCommand.{DebugCommand}
use Rattle.spim_debug.specs.BreakSets.{in_set}
use Rattle.spim_debug.specs.ByteCounts.{counted}
use Rattle.spim_debug.specs.Moves.{Debuggee, Progress, outcome, is_break, moves}
use Rattle.spim_debug.specs.Notes.{at_note, ended_note, state_in, notes}
use Rattle.spim_debug.specs.Debugging.{StandsAtEnd, FailsWithin, CountedBy}

-- no read and no write has failed in a run
abbrev pub NoneFailed : Option Halt → Type 0
NoneFailed None = Unit {0}
NoneFailed (Some (Exit code)) = Unit {0}
NoneFailed (Some (Trap trap)) = Unit {0}
NoneFailed (Some StepLimit) = ⊥
NoneFailed (Some ReadFault) = ⊥
NoneFailed (Some WriteFault) = ⊥

-- A debugger that can go on.
pub record IsReady (x : Debugger) : Type 0 where
  pub within : x.executed ≤ x.budget
  pub none_failed : NoneFailed x.machine.halted

-- A debugger of a text, with a mark for each word.
pub record IsDebuggerOf (text : List ℕ) (x : Debugger) : Type 0 where
  pub words : x.machine.cpu.memory.text ≡ text
  pub marks : length x.breaks ≡ length text
  pub few : length text ≤ MOST_TEXT_WORDS
  pub ready : IsReady x

-- The parts of a debugger that a run keeps.
pub record KeepsText (old new : Debugger) : Type 0 where
  pub text : new.machine.cpu.memory.text ≡ old.machine.cpu.memory.text
  pub breaks : new.breaks ≡ old.breaks

-- the halt of a machine whose run has this outcome
abbrev pub halted_in : Outcome → Option Halt
halted_in (Running s) = None
halted_in (Exited code s) = Some (Exit code)
halted_in (Trapped trap s) = Some (Trap trap)

-- The debugger has this progress in the run: its machine is in the state of the run, its source has the state's input left, and its sink, which held `first`,
-- got the state's output, whose bytes are counted.
pub record Stands (d : Debuggee) (p : Progress) (first : Option (List ℕ)) (x : Debugger) (left held : Option (List ℕ)) : Type 0 where
  pub text : x.machine.cpu.memory.text ≡ d.text
  pub segments : segments x.machine.cpu.memory ≡ d.segments
  pub budget : x.budget ≡ d.budget
  pub executed : x.executed ≡ p.executed
  pub within : x.executed ≤ x.budget
  pub state : IsIn first (state_in (outcome d p.executed)) x.machine left held
  pub halted : x.machine.halted ≡ halted_in (outcome d p.executed)
  pub breaks : (a : ℕ) → in_set x.breaks a ≡ is_break p.breaks a
  pub printed : x.printed ≡ counted (length (state_in (outcome d p.executed)).output)

-- The end of the whole run if a call failed among the next n instructions.
pub record Fails (d : Debuggee) (p : Progress) (n : ℕ) (first : Option (List ℕ)) (halt : Halt) (left held : Option (List ℕ)) : Type 0 where
  pub ends : StandsAtEnd d halt first left held
  pub within : FailsWithin d p n first halt left held

-- The run stands at its end, and where a call failed on the way from here, that was among the next n instructions.
abbrev pub EndsFrom : Debuggee → Progress → ℕ → Option (List ℕ) → Halt → Option (List ℕ) → Option (List ℕ) → Type 0
EndsFrom d p n first (Exit code) left held = StandsAtEnd d (Exit code) first left held
EndsFrom d p n first (Trap trap) left held = StandsAtEnd d (Trap trap) first left held
EndsFrom d p n first StepLimit left held = StandsAtEnd d StepLimit first left held
EndsFrom d p n first ReadFault left held = Fails d p n first ReadFault left held
EndsFrom d p n first WriteFault left held = Fails d p n first WriteFault left held

-- a note was put, or its put failed
abbrev pub IsPut : List ℕ → Result Unit DebugEnd → SinkSeen → SinkSeen → Type 0
IsPut note (Ok done) noted noted' = noted' ≡ after_puts noted (note ∷ [])
IsPut note (Err (end.Halt halt)) noted noted' = ⊥
IsPut note (Err end.NoteFault) noted noted' = PutSome noted (note ∷ []) noted'
IsPut note (Err end.Memory) noted noted' = ⊥

-- several notes were put, one after another, or a put failed, or memory ran out for a note
abbrev pub ArePut : List (List ℕ) → Result Unit DebugEnd → SinkSeen → SinkSeen → Type 0
ArePut texts (Ok done) noted noted' = noted' ≡ after_puts noted texts
ArePut texts (Err (end.Halt halt)) noted noted' = ⊥
ArePut texts (Err end.NoteFault) noted noted' = PutSome noted texts noted'
ArePut texts (Err end.Memory) noted noted' = PutSome noted texts noted'

-- a note says where the machine stopped, unless a read or a write failed
abbrev pub StopNoted : Halt → ℕ → ℕ → Result Unit DebugEnd → SinkSeen → SinkSeen → Type 0
StopNoted (Exit code) pc n result noted noted' = IsPut (ended_note n) result noted noted'
StopNoted (Trap trap) pc n result noted noted' = IsPut (ended_note n) result noted noted'
StopNoted StepLimit pc n result noted noted' = IsPut (at_note pc n) result noted noted'
StopNoted ReadFault pc n result noted noted' = (result ≡ Err (end.Halt ReadFault)) × (noted' ≡ noted)
StopNoted WriteFault pc n result noted noted' = (result ≡ Err (end.Halt WriteFault)) × (noted' ≡ noted)

-- The outcome of a command: the debugger is as far as the command moves it, and its notes were put, unless a call failed.
abbrev pub Obeyed : Debuggee → DebugCommand → Progress → Option (List ℕ) → Result Unit DebugEnd → Debugger → Option (List ℕ) → Option (List ℕ) → SinkSeen → SinkSeen → Type 0
Obeyed d c p first (Err (end.Halt ReadFault)) x left held noted noted' =
    Fails d p ((moves d c p).executed - p.executed) first ReadFault left held × (noted' ≡ noted)
Obeyed d c p first (Err (end.Halt WriteFault)) x left held noted noted' =
    Fails d p ((moves d c p).executed - p.executed) first WriteFault left held × (noted' ≡ noted)
Obeyed d c p first result x left held noted noted' =
    Stands d (moves d c p) first x left held × ArePut (notes d c (moves d c p).executed) result noted noted'

-- The count of faults that rose, if any.
abbrev pub CountedUnless : Result Unit DebugEnd → ℕ → ℕ → ℕ → ℕ → ℕ → ℕ → Type 0
CountedUnless (Ok done) s s' k k' e e' = (s' ≡ s) × (k' ≡ k) × (e' ≡ e)
CountedUnless (Err halt) s s' k k' e e' = CountedBy halt s s' k k' e e'

-- The same for a put of only notes.
abbrev pub NotesCounted : Result Unit DebugEnd → ℕ → ℕ → Type 0
NotesCounted (Err end.NoteFault) e e' = Rose e e'
NotesCounted result e e' = e' ≡ e
