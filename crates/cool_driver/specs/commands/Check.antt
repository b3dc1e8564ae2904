-- The postcondition of `check`: exit status 0 and no message if its files are an accepted program, or else a message with the reason why they are not.
use Rattle.std.specs.Prelude.{◌≡◌, ◌≢◌, ℕ, List, [], Some, false}
use Rattle.cool_syntax.specs.declared.TheConstants.{MOST_SOURCE_BYTES}
use Rattle.cool_classes.specs.Chains.{Class}
use Rattle.cool_faults.specs.{declared.fault.Fault.{Fault}, Verdicts.{IsFaultList}}
use Rattle.cool_driver.specs.{Calls.{Request, Call, shelf_of, UnlessCutShort}, Comes.{Comes, NoPieces}, Does.{Doing}, Sources.{AreKnown, IsProgram, IsNoProgram, SourcesExactly, unless_too_many}}
use Rattle.cool_driver.specs.Statuses.{DONE, REFUSED}

pub data DueToCheck (names : List (List ℕ)) (r : Request) : ℕ → List ℕ → List ℕ → List ℕ → Type 0 where
  accepted : (p : List Class) → IsProgram (shelf_of r) names p → DueToCheck names r DONE [] [] r.input
  refused : (status : ℕ) (note : List ℕ) → IsNoProgram (shelf_of r) names status note → DueToCheck names r status [] note r.input

-- The end of a call of `check` with files of these names.
pub record CheckEnds (names : List (List ℕ)) (c : Call) (status : ℕ) : Type 0 where
  pub comes : Comes (DueToCheck names c.request) NoPieces c status
  -- if the files were read, the status is 0 if their fault list is empty, and 1 if it is not
  pub checked_exactly : (contents : List (List ℕ)) (faults : List Fault) → AreKnown (shelf_of c.request) MOST_SOURCE_BYTES names contents
      → IsFaultList contents faults
      → UnlessCutShort status ((faults ≡ [] → status ≡ DONE) × (faults ≢ [] → status ≡ REFUSED))
  pub sources : SourcesExactly names c status

-- The specification of `check` with files of these names.
abbrev pub checking : List (List ℕ) → Doing
checking names = record { asked = unless_too_many names names; sources = Some names; takes = false; ends = CheckEnds names }
