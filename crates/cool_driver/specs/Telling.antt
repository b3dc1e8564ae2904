-- The specification of messages on standard error: `note_of` joins lines, `fault_note` is the message for a file that was not read, and `Noted` says that a
-- message was written or that the write failed.
use Rattle.std.specs.{Prelude.{◌≡◌, ◌≢◌, ℕ, ◌==◌, ◌⊎◌, Bool, true, false, List, [], ◌∷◌, ◌++◌, Option, Some, None}, List.{concat, AllByRecursion}, Global.{Vec}}
use Rattle.cool_ports.specs.declared.shelf.ShelfFault.{ShelfFault}
use Rattle.cool_ports.specs.declared.shelf.ShelfFault.TheVariants as faults
use Rattle.spim_machine.specs.declared.halt.Halt.{Halt}
use Rattle.cool_driver.specs.{Calls.{SinkUse, Got, GotPart}, Contents.{texts}, Execution.{status_of_halt, note_of_halt}, Notes.{missing_note, unread_note, too_large_note}}
use Rattle.cool_driver.specs.{Statuses.{code_of}, declared.status.Status.{Status}}
use Rattle.cool_driver.specs.declared.status.Status.TheVariants as statuses

-- the text ends in a line feed
unfoldable pub ends_line : List ℕ → Bool
ends_line [] = false
ends_line (byte ∷ []) = byte == 10
ends_line (byte ∷ next ∷ rest) = ends_line (next ∷ rest)

-- each of the texts ends in a line feed
abbrev pub AreLines : List (List ℕ) → Type 0
AreLines = AllByRecursion (λ text. ends_line text ≡ true)

-- a sink that was given `before` was then given such texts, a put for each, and so was given `after`
abbrev pub PutsLines : List (List ℕ) → List (List ℕ) → Type 0
PutsLines before after = (lines : List (List ℕ)) × (after ≡ before ++ lines) × AreLines lines

-- the note that consists of these lines
abbrev pub note_of : List (Vec ℕ) → List ℕ
note_of lines = concat (texts lines)

-- the note of a file or a script that was not read
abbrev pub fault_note : List ℕ → ShelfFault → Option (List ℕ)
fault_note name faults.Missing = Some (missing_note name)
fault_note name faults.Failed = Some (unread_note name)
fault_note name faults.TooLarge = Some too_large_note
fault_note name faults.Memory = None

-- Bytes were written, a note or an image, and this status answered, or the write failed.
abbrev pub Noted : SinkUse → List ℕ → Status → Status → Type 0
Noted s bytes status answered = ((answered ≡ status) × Got s bytes) ⊎ ((answered ≡ statuses.WriteFault) × GotPart s [] bytes)

-- The same, unless memory ran out before anything was written.
abbrev pub NotedIfMade : SinkUse → List ℕ → Status → Status → Type 0
NotedIfMade s bytes status answered = Noted s bytes status answered ⊎ ((answered ≡ statuses.Memory) × Got s [])

-- The machine's halt was noted, and its status returned, or the write of the note failed.
abbrev pub HaltNoted : SinkUse → Halt → Status → Type 0
HaltNoted s halt answered =
    ((code_of answered ≡ status_of_halt halt) × Got s (note_of_halt halt))
    ⊎ ((answered ≡ statuses.WriteFault) × (note_of_halt halt ≢ []) × GotPart s [] (note_of_halt halt))
