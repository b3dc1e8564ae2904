-- `Debugged` is the result of debugging a run with a script: its output, the rest of its input, and the notes (messages of the debugger), if reads and writes
-- may fail.
use Rattle.std.specs.Prelude.{◌≡◌, ◌⊎◌, ℕ, ◌≤◌, ◌<◌, ◌+◌, ◌*◌, List, ◌∷◌, ◌++◌, length, Option, Some}
use Rattle.std.specs.List.{AllByRecursion, concat}
use Rattle.cool_ports.specs.Counts.{Rose}
use Rattle.cool_ports.specs.SinkBytes.{appended, GotPrefix}
use Rattle.cool_ports.specs.SinkPuts.{PutFront}
use Rattle.mips_isa.specs.declared.address_map.TheConstants.{TEXT_START}
use Rattle.mips_isa.specs.ImageBounds.{ImageParts}
use Rattle.mips_isa.specs.Bytes.{segments_of}
use Rattle.mips_isa.specs.Calls.{State, Running}
use Rattle.mips_isa.specs.Run.{start}
use Rattle.spim_machine.specs.declared.halt.Halt.{Halt}
use Rattle.spim_machine.specs.declared.halt.Halt.TheVariants.{Exit, Trap, StepLimit, ReadFault, WriteFault}
use Rattle.spim_machine.specs.MachineStates.{MachineParts}
use Rattle.spim_machine.specs.Ends.{Ran, Counted}
use Rattle.spim_debug.specs.declared.debugger.DebugEnd.{DebugEnd}
use Rattle.spim_debug.specs.declared.debugger.DebugEnd.TheVariants as end
use Rattle.spim_debug.specs.declared.script.DebugCommand.{DebugCommand}
use Rattle.spim_debug.specs.declared.script.DebugCommand.TheVariants.{Break, Delete, Step, Run, Regs, Out, Show, Words, List as ListWords}
use Rattle.spim_debug.specs.Moves.{Debuggee, Progress, beginning, outcome, moves, all_moves, next_span}
use Rattle.spim_debug.specs.Notes.{state_in, notes, all_notes}

-- an image with so many bytes of heap and stack, over an input
abbrev pub debuggee : ImageParts → ℕ → ℕ → ℕ → List ℕ → Debuggee
debuggee image heap stack budget input = record {
  text = image.text;
  segments = segments_of image heap stack;
  start = start image (segments_of image heap stack) input;
  budget = budget;
}

-- the address is that of a word of a text
pub record IsTextAddress {W : Type 0} (text : List W) (a : ℕ) : Type 0 where
  pub index : ℕ
  pub within : index < length text
  pub address : a ≡ TEXT_START + 4 * index

-- the address of a command, if it has one, is that of a word of the text
abbrev pub IsCommandFor : List ℕ → DebugCommand → Type 0
IsCommandFor text (Break a) = IsTextAddress text a
IsCommandFor text (Delete a) = IsTextAddress text a
IsCommandFor text (Step n) = Unit {0}
IsCommandFor text Run = Unit {0}
IsCommandFor text Regs = Unit {0}
IsCommandFor text Out = Unit {0}
IsCommandFor text (Show a) = Unit {0}
IsCommandFor text (Words a n) = Unit {0}
IsCommandFor text (ListWords a n) = IsTextAddress text a

abbrev pub IsScriptFor : List ℕ → List DebugCommand → Type 0
IsScriptFor text = AllByRecursion (IsCommandFor text)

-- The notes that are due were all put, unless a read or a write failed before.
abbrev pub Noted : Halt → List ℕ → Option (List ℕ) → Option (List ℕ) → Type 0
Noted (Exit code) due before after = after ≡ appended before due
Noted (Trap trap) due before after = after ≡ appended before due
Noted StepLimit due before after = after ≡ appended before due
Noted ReadFault due before after = GotPrefix before due after
Noted WriteFault due before after = GotPrefix before due after

-- The run stands where the definition's stands after all instructions that may be executed, or at a call that failed.
pub record StandsAtEnd (d : Debuggee) (halt : Halt) (first left held : Option (List ℕ)) : Type 0 where
  pub machine : MachineParts
  pub ran : Ran d.text d.segments d.budget d.start first halt machine left held

-- The run stands where the definition's stands after some of the instructions that may be executed.
pub record StandsEarlier (d : Debuggee) (first left held : Option (List ℕ)) : Type 0 where
  pub executed : ℕ
  pub within : executed ≤ d.budget
  pub left_is : left ≡ Some (state_in (outcome d executed)).input
  pub held_is : held ≡ appended first (state_in (outcome d executed)).output

-- A call fails among the next n instructions of a run that goes on from here.
pub record FailsWithin (d : Debuggee) (p : Progress) (n : ℕ) (first : Option (List ℕ)) (halt : Halt) (left held : Option (List ℕ)) : Type 0 where
  pub state : State
  pub goes_on : outcome d p.executed ≡ Running state
  pub machine : MachineParts
  pub ran : Ran d.text d.segments n state first halt machine left held

-- A read or a write failed behind the front of a script, before the next command was done: the notes are those of the front.
pub record BrokenOff (d : Debuggee) (script : List DebugCommand) (halt : Halt) (first left held noted noted' : Option (List ℕ)) : Type 0 where
  pub front : List DebugCommand
  pub rest : List DebugCommand
  pub script_is : script ≡ front ++ rest
  pub fails : FailsWithin d (all_moves d front beginning) (next_span d rest (all_moves d front beginning)) first halt left held
  pub noted_is : noted' ≡ appended noted (concat (all_notes d front beginning))

abbrev pub IfBrokenOff : Debuggee → List DebugCommand → Halt → Option (List ℕ) → Option (List ℕ) → Option (List ℕ) → Option (List ℕ) → Option (List ℕ) → Type 0
IfBrokenOff d script (Exit code) first left held noted noted' = Unit {0}
IfBrokenOff d script (Trap trap) first left held noted noted' = Unit {0}
IfBrokenOff d script StepLimit first left held noted noted' = Unit {0}
IfBrokenOff d script ReadFault first left held noted noted' = BrokenOff d script ReadFault first left held noted noted'
IfBrokenOff d script WriteFault first left held noted noted' = BrokenOff d script WriteFault first left held noted noted'

-- The command that was begun last is this one, behind the front of a script: so many instructions are executed, and the notes are those of
-- the front, and of its own a prefix.
pub record StoppedIn (d : Debuggee) (script : List DebugCommand) (executed : ℕ) (noted noted' : Option (List ℕ)) : Type 0 where
  pub front : List DebugCommand
  pub command : DebugCommand
  pub rest : List DebugCommand
  pub script_is : script ≡ front ++ command ∷ rest
  pub executed_is : executed ≡ (moves d command (all_moves d front beginning)).executed
  pub noted_is : GotPrefix (appended noted (concat (all_notes d front beginning))) (concat (notes d command executed)) noted'

-- No command was begun.
pub record NotBegun (executed : ℕ) (noted noted' : Option (List ℕ)) : Type 0 where
  pub executed_is : executed ≡ 0
  pub noted_is : noted' ≡ noted

-- The result of debugging: its machine's output and input, and its notes. After a failing device, or if memory ran out, the rest of the script is not done.
abbrev pub Debugged : Debuggee → List DebugCommand → DebugEnd → Option (List ℕ) → Option (List ℕ) → Option (List ℕ) → Option (List ℕ) → Option (List ℕ) → Type 0
Debugged d script (end.Halt halt) first left held noted noted' =
    StandsAtEnd d halt first left held × Noted halt (concat (all_notes d script beginning)) noted noted'
    × IfBrokenOff d script halt first left held noted noted'
Debugged d script end.NoteFault first left held noted noted' =
    (at : StandsEarlier d first left held) × GotPrefix noted (concat (all_notes d script beginning)) noted'
    × StoppedIn d script at.executed noted noted'
Debugged d script end.Memory first left held noted noted' =
    (at : StandsEarlier d first left held) × GotPrefix noted (concat (all_notes d script beginning)) noted'
    × (NotBegun at.executed noted noted' ⊎ StoppedIn d script at.executed noted noted')

-- Notes of a front of a script were put.
pub record PutOfFront (d : Debuggee) (script : List DebugCommand) (puts puts' : List (List ℕ)) : Type 0 where
  pub front : List DebugCommand
  pub rest : List DebugCommand
  pub script_is : script ≡ front ++ rest
  pub put : puts' ≡ puts ++ all_notes d front beginning

-- Notes of a front of a script were put, and then a front of the notes of the command behind it.
pub record PutInCommand (d : Debuggee) (script : List DebugCommand) (puts puts' : List (List ℕ)) : Type 0 where
  pub front : List DebugCommand
  pub command : DebugCommand
  pub rest : List DebugCommand
  pub script_is : script ≡ front ++ command ∷ rest
  pub put : PutFront (puts ++ all_notes d front beginning) (notes d command (moves d command (all_moves d front beginning)).executed) puts'

-- The puts of the notes' sink: each note is one put, and those of a script that was done are all its notes, in order.
abbrev pub NotesPut : Debuggee → List DebugCommand → DebugEnd → List (List ℕ) → List (List ℕ) → Type 0
NotesPut d script (end.Halt (Exit code)) puts puts' = puts' ≡ puts ++ all_notes d script beginning
NotesPut d script (end.Halt (Trap trap)) puts puts' = puts' ≡ puts ++ all_notes d script beginning
NotesPut d script (end.Halt StepLimit) puts puts' = puts' ≡ puts ++ all_notes d script beginning
NotesPut d script (end.Halt ReadFault) puts puts' = PutOfFront d script puts puts'
NotesPut d script (end.Halt WriteFault) puts puts' = PutOfFront d script puts puts'
NotesPut d script end.NoteFault puts puts' = PutInCommand d script puts puts'
NotesPut d script end.Memory puts puts' = (puts' ≡ puts) ⊎ PutInCommand d script puts puts'

-- The count of faults that rose: of the source (s, then s'), of the sink (k, then k') and of the notes (e, then e').
abbrev pub CountedBy : DebugEnd → ℕ → ℕ → ℕ → ℕ → ℕ → ℕ → Type 0
CountedBy (end.Halt halt) s s' k k' e e' = Counted halt s s' k k' × (e' ≡ e)
CountedBy end.NoteFault s s' k k' e e' = (s' ≡ s) × (k' ≡ k) × Rose e e'
CountedBy end.Memory s s' k k' e e' = (s' ≡ s) × (k' ≡ k) × (e' ≡ e)
