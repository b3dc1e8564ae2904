-- A `Refusal` is the reason why a command stops before its work: an exit status with a message on standard error, or out of memory. The definitions say which
-- refusals are correct for given files.
use Rattle.std.specs.Prelude.{◌≡◌, ℕ, List, [], ◌∷◌, ◌++◌, map}
use Rattle.cool_faults.specs.{declared.fault.Fault.{Fault}, Texts.{fault_line}, Verdicts.{IsRefused}}
use Rattle.cool_syntax.specs.declared.TheConstants.{MOST_SOURCE_BYTES}
use Rattle.cool_driver.specs.{Calls.{ShelfUse, SinkUse, Got}, Contents.{texts}, Notes.{refused_note}, Sources.{AreRead}, Statuses.{REFUSED, code_of}}
use Rattle.cool_driver.specs.{Telling.{AreLines, note_of, Noted}, declared.refusal.Refusal.{Refusal}, declared.refusal.Refusal.TheVariants.{Told, Memory}}
use Rattle.cool_driver.specs.declared.status.Status.{Status}
use Rattle.cool_driver.specs.declared.status.Status.TheVariants as statuses

-- the status and the note of a refusal satisfy a condition, unless memory ran out for the note
abbrev pub IsTold : (ℕ → List ℕ → Type 0) → Refusal → Type 0
IsTold Due (Told status lines) = AreLines (texts lines.items) × Due (code_of status) (note_of lines.items)
IsTold Due Memory = Unit {0}

-- a refusal has this status and this one line, unless memory ran out
abbrev pub IsLine : Status → List ℕ → Refusal → Type 0
IsLine status line (Told told lines) = (told ≡ status) × (texts lines.items ≡ line ∷ [])
IsLine status line Memory = Unit {0}

-- a refusal has status 1 and a line for each of these faults of files of these names, unless memory ran out
abbrev pub AreLinesOf : List (List ℕ) → List Fault → Refusal → Type 0
AreLinesOf names faults (Told status lines) = (code_of status ≡ REFUSED) × (texts lines.items ≡ map (fault_line names) faults)
AreLinesOf names faults Memory = Unit {0}

-- files of these bytes are refused with this status and this note
abbrev pub IsDueToFaults : List (List ℕ) → List (List ℕ) → ℕ → List ℕ → Type 0
IsDueToFaults names contents status note =
    (faults : List Fault) × IsRefused contents faults × (status ≡ REFUSED) × (note ≡ refused_note names faults)

-- the files of these names were read and have faults, and a sink was given to put a line for each fault, one after another
abbrev pub PutsFaults : List (List ℕ) → ShelfUse → List (List ℕ) → List (List ℕ) → Type 0
PutsFaults names shelf before after =
    (contents : List (List ℕ)) × (faults : List Fault) × AreRead shelf MOST_SOURCE_BYTES names contents × IsRefused contents faults
    × (after ≡ before ++ map (fault_line names) faults)

-- if the status of a refusal is 1, its lines are those of the faults of these files
abbrev pub AreFaultLines : List (List ℕ) → ShelfUse → Refusal → Type 0
AreFaultLines names shelf (Told status lines) = code_of status ≡ REFUSED → PutsFaults names shelf [] (texts lines.items)
AreFaultLines names shelf Memory = Unit {0}

-- the lines of a refusal end in line feeds
abbrev pub HasLines : Refusal → Type 0
HasLines (Told status lines) = AreLines (texts lines.items)
HasLines Memory = Unit {0}

-- The note of a refusal was written, and its status returned, or a write failed.
abbrev pub RefusalNoted : SinkUse → Refusal → Status → Type 0
RefusalNoted s (Told status lines) answered = Noted s (note_of lines.items) status answered
RefusalNoted s Memory answered = (answered ≡ statuses.Memory) × Got s []
