-- The source files of a command: `AreRead` says that they were read, and `IsProgram` that they are an accepted program. Otherwise `IsNoProgram` gives the exit
-- status and the message.
use Rattle.std.specs.{Prelude.{◌≡◌, ◌≢◌, ℕ, ◌-◌, ◌<◌, ◌≤◌, ◌⊎◌, nat_lt, if◌then◌else◌, true, List, [], ◌∷◌, ◌++◌, length, Contains, Some, None, String}, List.{list_all, AllByRecursion}}
use Rattle.std.specs.Global.{Global, Vec}
use Rattle.cool_syntax.specs.declared.TheConstants.{MOST_FILES, MOST_SOURCE_BYTES}
use Rattle.cool_classes.specs.Chains.{Class}
use Rattle.cool_faults.specs.{declared.fault.Fault.{Fault}, Files.{total}, Verdicts.{IsAccepted, IsFaultList, IsRefused}}
use Rattle.cool_ports.specs.{Counts.{last_count, Rose}, ShelfFiles.{FileMap, IsMissing, IsLonger, AreHeld}, declared.shelf.ShelfFault.{ShelfFault}}
use Rattle.cool_words.specs.Plans.{is_file_name, words_of}
use Rattle.cool_driver.specs.{Contents.{texts}, Calls.{Call, Got, ShelfUse, shelf_of, HasTold, UnlessCutShort}}
use Rattle.cool_driver.specs.{Notes.{refused_note, missing_note, unread_note, too_many_note, too_large_note}, Statuses.{REFUSED, FILE_FAULT}}
use Rattle.cool_sources.specs.Reading.{IsCause}
use Rattle.lists.specs.Bytes.{AreBytes}

-- The sources of a program: a file's name and bytes for each, one file at least, and neither too many nor too large.
pub record AreSources (names : List (String Global)) (contents : List (Vec ℕ)) : Type 0 where
  pub each : length names ≡ length contents
  pub named : list_all is_file_name (words_of names) ≡ true
  pub some : 0 < length names
  pub bytes : AllByRecursion AreBytes (texts contents)
  pub few : length contents ≤ MOST_FILES
  pub small : total (texts contents) ≤ MOST_SOURCE_BYTES

-- these names are asked for, unless those of the files are too many; then none is
abbrev pub unless_too_many : (files asked : List (List ℕ)) → List (List ℕ)
unless_too_many files asked = if nat_lt MOST_FILES (length files) then [] else asked

-- the texts `all` end with `last`
abbrev pub EndsWith : List (List ℕ) → List (List ℕ) → Type 0
EndsWith last all = (before : List (List ℕ)) × (all ≡ before ++ last)

-- so many texts came behind others
abbrev pub GrewBy : ℕ → List (List ℕ) → List (List ℕ) → Type 0
GrewBy count before after = (more : List (List ℕ)) × (length more ≡ count) × (after ≡ before ++ more)

-- The files of these names were read, and have these bytes. They are the shelf's files, if contracts can see those, and the last that it gave, one for each
-- name that it was last asked for. They are neither too many nor too large, and no fault of the shelf came.
pub record AreRead (shelf : ShelfUse) (most : ℕ) (names contents : List (List ℕ)) : Type 0 where
  pub few : length names ≤ MOST_FILES
  pub held : AreHeld shelf.files names contents
  pub within : total contents ≤ most
  pub calm : shelf.faults_after ≡ shelf.faults_before
  pub asked : EndsWith names shelf.asked_after
  pub gave : EndsWith contents shelf.gave_after

-- The files of these names have these bytes, as a premise of theorems. Either contracts can see the files of the shelf, or these are the last bytes that it
-- gave. They are neither too many nor too large, and no fault of the shelf can have come.
pub record AreKnown (shelf : ShelfUse) (most : ℕ) (names contents : List (List ℕ)) : Type 0 where
  pub few : length names ≤ MOST_FILES
  pub held : AreHeld shelf.files names contents
  pub within : total contents ≤ most
  pub below : shelf.faults_before < last_count
  pub calm : shelf.faults_after ≡ shelf.faults_before
  pub known : ((files : FileMap) × (shelf.files ≡ Some files)) ⊎ EndsWith contents shelf.gave_after

-- The files before the one of this name have these bytes, as far as contracts can see the shelf's files, and not more bytes than the limit. The shelf was
-- last asked for them and for that one, each once, in order, and it gave these bytes last.
pub record AreReadUpTo (shelf : ShelfUse) (most : ℕ) (names : List (List ℕ)) (name : List ℕ) (contents : List (List ℕ)) : Type 0 where
  pub front : List (List ℕ)
  pub rest : List (List ℕ)
  pub stands : names ≡ front ++ name ∷ rest
  pub few : length names ≤ MOST_FILES
  pub held : AreHeld shelf.files front contents
  pub within : total contents ≤ most
  pub asked : EndsWith (front ++ name ∷ []) shelf.asked_after
  pub gave : EndsWith contents shelf.gave_after

-- the file at which reading stops: the shelf refuses it, and those before it were read
abbrev pub IsStopAt : ShelfUse → List (List ℕ) → ℕ → List ℕ → ShelfFault → Type 0
IsStopAt shelf names most name fault =
    (contents : List (List ℕ)) × AreReadUpTo shelf most names name contents
    × IsCause shelf.files shelf.faults_before shelf.faults_after name (most - total contents) fault

-- The reasons why the files of these names, with a limit on their bytes, were not read, each with its note.
pub data AreUnread (shelf : ShelfUse) (most : ℕ) (names : List (List ℕ)) : List ℕ → Type 0 where
  too_many : MOST_FILES < length names → shelf.faults_after ≡ shelf.faults_before → AreUnread shelf most names too_many_note
  missing : (name : List ℕ) (contents : List (List ℕ)) → AreReadUpTo shelf most names name contents
      → IsMissing shelf.files name shelf.faults_before shelf.faults_after → AreUnread shelf most names (missing_note name)
  unread : (name : List ℕ) (contents : List (List ℕ)) → AreReadUpTo shelf most names name contents
      → Rose shelf.faults_before shelf.faults_after → AreUnread shelf most names (unread_note name)
  too_large : (name : List ℕ) (contents : List (List ℕ)) → AreReadUpTo shelf most names name contents
      → IsLonger shelf.files name (most - total contents) shelf.faults_before shelf.faults_after → AreUnread shelf most names too_large_note

-- the status and the note that are due if the files were not read
abbrev pub IsDueUnread : ShelfUse → ℕ → List (List ℕ) → ℕ → List ℕ → Type 0
IsDueUnread shelf most names status note = (status ≡ FILE_FAULT) × AreUnread shelf most names note

-- The files of these names are this program.
pub record IsProgram (shelf : ShelfUse) (names : List (List ℕ)) (p : List Class) : Type 0 where
  pub contents : List (List ℕ)
  pub read : AreRead shelf MOST_SOURCE_BYTES names contents
  pub bytes : AllByRecursion AreBytes contents
  pub accepted : IsAccepted contents p

-- Why the files of these names are no program: the status and the note.
pub data IsNoProgram (shelf : ShelfUse) (names : List (List ℕ)) : ℕ → List ℕ → Type 0 where
  -- they were not read
  not_read : (note : List ℕ) → AreUnread shelf MOST_SOURCE_BYTES names note → IsNoProgram shelf names FILE_FAULT note
  -- they have faults, and there is a line for each
  faulty : (contents : List (List ℕ)) (faults : List Fault) → AreRead shelf MOST_SOURCE_BYTES names contents → IsRefused contents faults
      → IsNoProgram shelf names REFUSED (refused_note names faults)

-- Status 10 is returned if there are too many files. It is also returned if the shelf's files are known, and one is missing or they have more bytes than the
-- limit.
pub record FilesExactly (names : List (List ℕ)) (most : ℕ) (c : Call) (status : ℕ) : Type 0 where
  pub too_many_exactly : MOST_FILES < length names → UnlessCutShort status (status ≡ FILE_FAULT)
  pub missing_exactly : (files : FileMap) (name : List ℕ) → HasTold (shelf_of c.request) files → Contains names name → files name ≡ None
      → UnlessCutShort status (status ≡ FILE_FAULT)
  pub too_large_exactly : (files : FileMap) (contents : List (List ℕ)) → HasTold (shelf_of c.request) files → AreHeld (Some files) names contents
      → most < total contents → UnlessCutShort status (status ≡ FILE_FAULT)

-- Status 1 is returned if the files are known and their fault list is not empty, with a line for each fault.
pub record SourcesExactly (names : List (List ℕ)) (c : Call) (status : ℕ) : Type 0 where
  pub files : FilesExactly names MOST_SOURCE_BYTES c status
  pub refused_exactly : (contents : List (List ℕ)) (faults : List Fault) → AreKnown (shelf_of c.request) MOST_SOURCE_BYTES names contents
      → IsFaultList contents faults → faults ≢ []
      → UnlessCutShort status ((status ≡ REFUSED) × Got c.notes (refused_note names faults))
