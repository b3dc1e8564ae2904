-- The postcondition of `debug`: it runs the image of the program in its files, within the limits, with the debugger's messages that its script requests, or
-- writes a message with the reason why not.
use Rattle.std.specs.Prelude.{◌≡◌, ◌≢◌, ℕ, ◌<◌, ◌≤◌, ◌⊎◌, List, [], ◌∷◌, ◌++◌, length, Some, None, Ok, Err, true}
use Rattle.cool_syntax.specs.declared.TheConstants.{MOST_FILES, MOST_SOURCE_BYTES}
use Rattle.cool_classes.specs.Chains.{Class}
use Rattle.cool_emit.specs.Programs.{program_lines}
use Rattle.cool_faults.specs.{declared.fault.Fault.{Fault}, Verdicts.{IsAccepted, IsFaultList}}
use Rattle.cool_ports.specs.{Counts.{Rose}, ShelfFiles.{FileMap, MayHold, IsMissing, IsLonger}, SinkBytes.{appended}}
use Rattle.cool_simulation.specs.Accord.{Means}
use Rattle.mips_isa.specs.{Assembly.{image_of}, ImageBounds.{ImageParts}}
use Rattle.spim_debug.specs.{Debugging.{Debugged, CountedBy}, declared.debugger.DebugEnd.{DebugEnd}, declared.script.DebugCommand.{DebugCommand}}
use Rattle.spim_debug.specs.{declared.script.ScriptFault.{ScriptFault}, declared.script.TheConstants.{MOST_SCRIPT_BYTES}, Notes.{state_in}}
use Rattle.spim_debug.specs.declared.debugger.DebugEnd.TheVariants as end
use Rattle.spim_machine.specs.declared.halt.Halt.TheVariants as halt
use Rattle.cool_words.specs.{Plans.{IsBounded}, declared.plan.RunLimits.{RunLimits}}
use Rattle.cool_driver.specs.{Calls.{Request, Call, SinkUse, Got, GotPart, ShelfUse, shelf_of, HasTold, UnlessCutShort, DidNothing}, Comes.{Comes, NoPieces}, Does.{Doing}}
use Rattle.cool_driver.specs.{Debugging.{commands_for, debuggee_within, debug_notes}, Execution.{run_of, status_of, note_of}, Headline.{Headline, IsPartOfSource}}
use Rattle.cool_driver.specs.Notes.{missing_note, unread_note, too_many_note, too_large_note, refused_note, read_fault_note, script_note}
use Rattle.cool_driver.specs.{Sources.{AreKnown, EndsWith, IsProgram, IsNoProgram, FilesExactly, unless_too_many}, Statuses.{REFUSED, READ_FAULT, WRITE_FAULT, OUT_OF_MEMORY, FILE_FAULT, UNFIT}}
use Rattle.lists.specs.Bytes.{AreBytes}

-- The script of this name has these bytes, as far as the shelf tells, and is not too large.
pub record ScriptIsRead (shelf : ShelfUse) (script bytes : List ℕ) : Type 0 where
  pub held : MayHold shelf.files script bytes
  pub within : length bytes ≤ MOST_SCRIPT_BYTES

-- The same as a premise, of files with these contents, by what the shelf tells or by what it gave: the script has these bytes where the shelf tells
-- its files, and where it does not, it was given before them. It is not too large.
pub record ScriptIsKnown (shelf : ShelfUse) (script bytes : List ℕ) (contents : List (List ℕ)) : Type 0 where
  pub held : MayHold shelf.files script bytes
  pub within : length bytes ≤ MOST_SCRIPT_BYTES
  pub known : ((files : FileMap) × (shelf.files ≡ Some files)) ⊎ EndsWith (bytes ∷ contents) shelf.gave_after

-- Why the script of this name was not read, for which the shelf was last asked, and the note of it.
pub data ScriptIsUnread (shelf : ShelfUse) (script : List ℕ) : List ℕ → Type 0 where
  missing : EndsWith (script ∷ []) shelf.asked_after → IsMissing shelf.files script shelf.faults_before shelf.faults_after → ScriptIsUnread shelf script (missing_note script)
  unread : EndsWith (script ∷ []) shelf.asked_after → Rose shelf.faults_before shelf.faults_after → ScriptIsUnread shelf script (unread_note script)
  too_large : EndsWith (script ∷ []) shelf.asked_after → IsLonger shelf.files script MOST_SCRIPT_BYTES shelf.faults_before shelf.faults_after
      → ScriptIsUnread shelf script too_large_note

-- the same as what is due: the status and the note
abbrev pub IsDueUnscripted : ShelfUse → List ℕ → ℕ → List ℕ → Type 0
IsDueUnscripted shelf script status note = (status ≡ FILE_FAULT) × ScriptIsUnread shelf script note

-- the result that is due for a program whose files have these names, if the script of this name and these bytes has a fault
abbrev pub IsDueToScript : List ℕ → List ℕ → List (List ℕ) → List Class → ℕ → List ℕ → Type 0
IsDueToScript script bytes names p status note =
    (fault : ScriptFault) × (commands_for p names bytes ≡ Err fault) × (status ≡ UNFIT) × (note ≡ script_note script fault)

-- Why nothing is debugged for this script and the files of these names: the status and the note.
pub data IsNoDebuggee (script : List ℕ) (names : List (List ℕ)) (shelf : ShelfUse) : ℕ → List ℕ → Type 0 where
  too_many : MOST_FILES < length names → shelf.faults_after ≡ shelf.faults_before → IsNoDebuggee script names shelf FILE_FAULT too_many_note
  -- there are not too many files, and the script was not read
  unscripted : (note : List ℕ) → length names ≤ MOST_FILES → ScriptIsUnread shelf script note → IsNoDebuggee script names shelf FILE_FAULT note
  -- it was read, and the files are no program
  refused : (bytes : List ℕ) (status : ℕ) (note : List ℕ) → ScriptIsRead shelf script bytes → IsNoProgram shelf names status note
      → IsNoDebuggee script names shelf status note
  -- they are one, for which the script has a fault
  misscripted : (bytes : List ℕ) (p : List Class) (fault : ScriptFault) → ScriptIsRead shelf script bytes → (is : IsProgram shelf names p)
      → EndsWith (bytes ∷ is.contents) shelf.gave_after
      → commands_for p names bytes ≡ Err fault → IsNoDebuggee script names shelf UNFIT (script_note script fault)

-- The image that is debugged for them, that of the lines of the program that the files are, which means it; and the commands that the script says
-- for the program.
pub record IsDebuggee (script : List ℕ) (names : List (List ℕ)) (shelf : ShelfUse) (image : ImageParts) (commands : List DebugCommand) : Type 0 where
  pub bytes : List ℕ
  pub read : ScriptIsRead shelf script bytes
  pub p : List Class
  pub is : IsProgram shelf names p
  pub gave : EndsWith (bytes ∷ is.contents) shelf.gave_after
  pub says : commands_for p names bytes ≡ Ok commands
  pub image_is : image ≡ image_of (program_lines p names)
  pub means : Means image p names

-- the result that is due if nothing is debugged: no output, and no input is taken
pub data DueToUndebugged (script : List ℕ) (names : List (List ℕ)) (r : Request) : ℕ → List ℕ → List ℕ → List ℕ → Type 0 where
  undebugged : (status : ℕ) (note : List ℕ) → IsNoDebuggee script names (shelf_of r) status note
      → DueToUndebugged script names r status [] note r.input

-- The debugger stopped so in a call, when the notes had fared so: where the run of the image stands, which notes of which commands came, and
-- which device failed, if one did.
pub record Stopped (limits : RunLimits) (image : ImageParts) (commands : List DebugCommand) (c : Call) (how : DebugEnd) (notes : SinkUse) : Type 0 where
  pub debugged : Debugged (debuggee_within limits image c.request.input) commands how c.out.held_before (Some c.left) c.out.held_after
      notes.held_before notes.held_after
  pub counted : CountedBy how c.input_before c.input_after c.out.faults_before c.out.faults_after notes.faults_before notes.faults_after

-- when just these notes had come
abbrev pub with_notes : SinkUse → List ℕ → SinkUse
with_notes s notes = record s { held_after = appended s.held_before notes; faults_after = s.faults_before }

-- No write failed in a call, and memory sufficed, until the note of the end was due: the status, the notes of the commands, and that note.
pub data Finished (limits : RunLimits) (image : ImageParts) (commands : List DebugCommand) (c : Call) : ℕ → List ℕ → List ℕ → Type 0 where
  -- the run of the image ended: its output came, and what it leaves of the input is left; the notes are those of all commands
  debugged : Got c.out (state_in (run_of limits image c.request.input)).output → c.left ≡ (state_in (run_of limits image c.request.input)).input
      → Finished limits image commands c (status_of (run_of limits image c.request.input)) (debug_notes limits image commands c.request.input)
      (note_of (run_of limits image c.request.input))
  -- it came to a call that failed to read: the notes are those of the commands before the one that was begun
  unread_debugged : (notes : List ℕ) → Stopped limits image commands c (end.Halt halt.ReadFault) (with_notes c.notes notes)
      → Finished limits image commands c READ_FAULT notes read_fault_note

-- The end of a call that debugs an image, by the status.
pub data Debugs (limits : RunLimits) (image : ImageParts) (commands : List DebugCommand) (c : Call) : ℕ → Type 0 where
  -- the result that is due was written, and nothing else
  written : (status : ℕ) (notes note : List ℕ) → Finished limits image commands c status notes note → Got c.notes (notes ++ note)
      → Debugs limits image commands c status
  -- status 8: the write of the note of the end failed: all notes before it came, and of it a prefix
  unnoted : (status : ℕ) (notes note : List ℕ) → Finished limits image commands c status notes note → GotPart c.notes notes note
      → Debugs limits image commands c WRITE_FAULT
  -- status 8: a write of the output failed: just the notes of the commands before the one that was begun came
  unwritten : Stopped limits image commands c (end.Halt halt.WriteFault) c.notes → Debugs limits image commands c WRITE_FAULT
  -- status 8: the write of a note of a command failed: the notes of the commands before it came, and of its own a prefix; the run stands where
  -- that command leaves it
  unnoted_command : Stopped limits image commands c end.NoteFault c.notes → Debugs limits image commands c WRITE_FAULT
  -- status 9: memory ran out before anything was written or taken
  short : DidNothing c → Debugs limits image commands c OUT_OF_MEMORY
  -- status 9: it ran out in a command, and as much came as where its note fails, or before the first command
  cut_short : Stopped limits image commands c end.Memory c.notes → Debugs limits image commands c OUT_OF_MEMORY

-- The end of a call of `debug`: nothing is debugged, or an image for the program and the script.
pub data DebugComes (script : List ℕ) (names : List (List ℕ)) (limits : RunLimits) (c : Call) (status : ℕ) : Type 0 where
  refused : Comes (DueToUndebugged script names c.request) NoPieces c status → DebugComes script names limits c status
  debugs : (image : ImageParts) (commands : List DebugCommand) → IsDebuggee script names (shelf_of c.request) image commands → IsBounded limits
      → Debugs limits image commands c status → DebugComes script names limits c status

-- A call of `debug` for a program stops short: a note of a command failed, status 8, or memory ran out, status 9, after some instructions of the run of an
-- image that means the program.
pub record StopsShort (c : Call) (status : ℕ) (limits : RunLimits) (names : List (List ℕ)) (p : List Class) (commands : List DebugCommand) : Type 0 where
  pub image : ImageParts
  pub means : Means image p names
  pub stops : ((status ≡ WRITE_FAULT) × Stopped limits image commands c end.NoteFault c.notes)
      ⊎ ((status ≡ OUT_OF_MEMORY) × Stopped limits image commands c end.Memory c.notes)
  pub part : IsPartOfSource c limits names p

-- The end of a call of `debug` with a script and files of these names, within limits.
pub record DebugEnds (script : List ℕ) (names : List (List ℕ)) (limits : RunLimits) (c : Call) (status : ℕ) : Type 0 where
  pub comes : DebugComes script names limits c status
  -- if the files were read and are accepted, and the script was read and has no fault, it goes as the run of the image of the program under the debugger,
  -- whatever the status
  pub debugged_exactly : (contents : List (List ℕ)) (p : List Class) (bytes : List ℕ) (commands : List DebugCommand)
      → AreKnown (shelf_of c.request) MOST_SOURCE_BYTES names contents → IsAccepted contents p
      → ScriptIsKnown (shelf_of c.request) script bytes contents → commands_for p names bytes ≡ Ok commands
      → Debugs limits (image_of (program_lines p names)) commands c status
  -- if it has a fault, the status is 12, and the note tells that
  pub misscripted_exactly : (contents : List (List ℕ)) (p : List Class) (bytes : List ℕ) (fault : ScriptFault)
      → AreKnown (shelf_of c.request) MOST_SOURCE_BYTES names contents → IsAccepted contents p
      → ScriptIsKnown (shelf_of c.request) script bytes contents → commands_for p names bytes ≡ Err fault
      → UnlessCutShort status ((status ≡ UNFIT) × Got c.notes (script_note script fault))
  -- if it has none, it goes as `run`, unless it stops short, or memory ran out before anything was written or taken
  pub debugged_headline : (contents : List (List ℕ)) (p : List Class) (bytes : List ℕ) (commands : List DebugCommand)
      → AreKnown (shelf_of c.request) MOST_SOURCE_BYTES names contents → IsAccepted contents p
      → ScriptIsKnown (shelf_of c.request) script bytes contents → commands_for p names bytes ≡ Ok commands → AreBytes c.request.input
      → Headline c status limits names p ⊎ StopsShort c status limits names p commands ⊎ ((status ≡ OUT_OF_MEMORY) × DidNothing c)
  -- status 10 comes where the script is missing or too large, and where files are
  pub script_missing_exactly : (files : FileMap) → HasTold (shelf_of c.request) files → files script ≡ None
      → UnlessCutShort status (status ≡ FILE_FAULT)
  pub script_too_large_exactly : (files : FileMap) (bytes : List ℕ) → HasTold (shelf_of c.request) files → files script ≡ Some bytes
      → MOST_SCRIPT_BYTES < length bytes → UnlessCutShort status (status ≡ FILE_FAULT)
  pub files : FilesExactly names MOST_SOURCE_BYTES c status
  -- status 1 comes where the script and the files were read and the fault list is not empty, with a line for each fault of it
  pub refused_exactly : (contents : List (List ℕ)) (bytes : List ℕ) (faults : List Fault)
      → AreKnown (shelf_of c.request) MOST_SOURCE_BYTES names contents → ScriptIsKnown (shelf_of c.request) script bytes contents
      → IsFaultList contents faults → faults ≢ [] → UnlessCutShort status ((status ≡ REFUSED) × Got c.notes (refused_note names faults))

-- The specification of `debug` with a script and files of these names, within limits.
abbrev pub debugging : (script : List ℕ) → (names : List (List ℕ)) → RunLimits → Doing
debugging script names limits = record { asked = unless_too_many names (script ∷ names); sources = Some names; takes = true; ends = DebugEnds script names limits }
