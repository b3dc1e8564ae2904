-- The specification of a program's task on source files, and the outcome that it demands for given file names: the text for the output, the message on standard
-- error, and the status.
use Rattle.std.specs.Prelude.{◌≡◌, ◌≢◌, ℕ, ◌<◌, ◌≤◌, ◌⊎◌, List, [], Bool, true, false, length}
use Rattle.cool_syntax.specs.declared.TheConstants.{MOST_FILES, MOST_SOURCE_BYTES}
use Rattle.cool_ports.specs.declared.shelf.ShelfFault.{ShelfFault}
use Rattle.cool_sources.specs.Devices.{ShelfUse, IsUnused, AreRead}
use Rattle.cool_sources.specs.Notes.{file_note, too_many_note, usage_note}
use Rattle.cool_sources.specs.Reading.{IsRefusedAt}
use Rattle.cool_sources.specs.declared.answer.Answer.{Answer}
use Rattle.cool_sources.specs.declared.status.Status.{Status}
use Rattle.cool_sources.specs.declared.status.Status.TheVariants.{Done, Refused, Usage, Memory, FileFault}

-- The name of the program, the names of files that it accepts, and its answers on files of these names and bytes.
pub record TaskSpec : Type 1 where
  pub program : List ℕ
  pub accepts : List (List ℕ) → Bool
  pub is_answer : List (List ℕ) → List (List ℕ) → Answer → Type 0

-- the status of an answer: the files have faults, or none
abbrev pub verdict : Bool → Status
verdict true = Refused
verdict false = Done

-- There is no name, or the program does not accept the names.
abbrev pub IsNoCall : TaskSpec → List (List ℕ) → Type 0
IsNoCall task names = (names ≡ []) ⊎ (task.accepts names ≡ false)

-- There are names, and the program accepts them.
abbrev pub IsCall : TaskSpec → List (List ℕ) → Type 0
IsCall task names = (names ≢ []) × (task.accepts names ≡ true)

-- The status, the text and the note that are due for files of these names.
pub data IsDue (task : TaskSpec) (shelf : ShelfUse) (names : List (List ℕ)) : Status → List ℕ → List ℕ → Type 0 where
  -- the arguments are not a valid command line
  usage : IsNoCall task names → IsUnused shelf → IsDue task shelf names Usage [] (usage_note task.program)
  -- there are too many files
  too_many : IsCall task names → MOST_FILES < length names → IsUnused shelf → IsDue task shelf names FileFault [] (too_many_note task.program)
  -- the shelf refused the file of this name, after those in front of it were read
  unread : IsCall task names → length names ≤ MOST_FILES → (name : List ℕ) (fault : ShelfFault) → IsRefusedAt shelf names MOST_SOURCE_BYTES name fault
      → IsDue task shelf names FileFault [] (file_note task.program name fault)
  -- the files were read, no fault of the shelf came, and this is the answer
  answered : IsCall task names → length names ≤ MOST_FILES → (contents : List (List ℕ)) (answer : Answer) → AreRead shelf names contents
      → shelf.faults_after ≡ shelf.faults_before → task.is_answer names contents answer
      → IsDue task shelf names (verdict answer.faulty) answer.text.items answer.note.now
  -- memory ran out
  memory : IsCall task names → length names ≤ MOST_FILES → IsDue task shelf names Memory [] []
