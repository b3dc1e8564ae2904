-- The reasons why a source file cannot be read (missing, unreadable, too large), and the file at which reading stops.
use Rattle.std.specs.Prelude.{◌≡◌, ℕ, ◌-◌, ◌<◌, ◌≤◌, List, [], ◌∷◌, ◌++◌, length, Option}
use Rattle.cool_faults.specs.Files.{total}
use Rattle.cool_ports.specs.Counts.{Rose}
use Rattle.cool_ports.specs.ShelfFiles.{FileMap, IsMissing, IsLonger, AreHeld}
use Rattle.cool_sources.specs.Devices.{ShelfUse}
use Rattle.cool_sources.specs.declared.reading.ReadError.{ReadError}
use Rattle.cool_sources.specs.declared.reading.ReadError.TheVariants.{Memory, Refused}
use Rattle.cool_ports.specs.declared.shelf.ShelfFault.{ShelfFault}
use Rattle.cool_ports.specs.declared.shelf.ShelfFault.TheVariants as faults

-- why the shelf refuses a file of this name that may have so many bytes
abbrev pub IsCause : Option FileMap → ℕ → ℕ → List ℕ → ℕ → ShelfFault → Type 0
IsCause files before after name most faults.Missing = IsMissing files name before after
IsCause files before after name most faults.Failed = Rose before after
IsCause files before after name most faults.TooLarge = IsLonger files name most before after
IsCause files before after name most faults.Memory = ⊥

-- The files in front of the one of this name were read, which have so many bytes at most; and the shelf, which was last asked for that one, refuses it.
pub record IsRefusedAt (shelf : ShelfUse) (names : List (List ℕ)) (most : ℕ) (name : List ℕ) (fault : ShelfFault) : Type 0 where
  pub front : List (List ℕ)
  pub rest : List (List ℕ)
  pub contents : List (List ℕ)
  pub stands : names ≡ front ++ name ∷ rest
  pub held : AreHeld shelf.files front contents
  pub asked : shelf.asked_after ≡ shelf.asked_before ++ (front ++ name ∷ [])
  pub gave : shelf.gave_after ≡ shelf.gave_before ++ contents
  pub within : total contents ≤ most
  pub cause : IsCause shelf.files shelf.faults_before shelf.faults_after name (most - total contents) fault

-- the file at which reading stops, and the reason
abbrev pub IsStop : ShelfUse → List (List ℕ) → ℕ → ReadError → Type 0
IsStop shelf names most Memory = Unit {0}
IsStop shelf names most (Refused name fault) = IsRefusedAt shelf names most name.now fault
