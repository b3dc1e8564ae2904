-- The theorems about source files are stated here: files have one error list and one result of the front end, and their errors of classes and features are
-- exactly those that the rules define.
use Rattle.std.specs.Prelude.{◌≡◌, ◌⊎◌, ℕ, ◌≤◌, List, [], length, Contains}
use Rattle.cool_syntax.specs.declared.TheConstants.{MOST_FILES, MOST_SOURCE_BYTES}
use Rattle.cool_syntax.specs.declared.file_tree.ClassDef.{ClassDef}
use Rattle.cool_syntax.specs.declared.file_tree.FileTree.{FileTree}
use Rattle.cool_syntax.specs.declared.place.Place.{Place}
use Rattle.cool_classes.specs.declared.fault.ClassFault.{ClassFault}
use Rattle.cool_classes.specs.declared.fault.ClassKind.{ClassKind}
use Rattle.cool_classes.specs.Chains.{Class}
use Rattle.cool_classes.specs.ClassRows.{IsClassFault, IsTableFault}
use Rattle.cool_classes.specs.Definitions.{definitions}
use Rattle.cool_faults.specs.declared.fault.Fault.{Fault}
use Rattle.cool_faults.specs.declared.fault.Fault.TheVariants.{Class as OfClasses}
use Rattle.cool_faults.specs.declared.fault.Untyped.{Untyped}
use Rattle.cool_faults.specs.Files.{total}
use Rattle.cool_faults.specs.Untyped.{IsRefusedEarly, IsUntyped}
use Rattle.cool_faults.specs.Verdicts.{AreTrees, IsAccepted, IsFaultList, IsRefused}

-- files have one fault list
abbrev pub HaveOneFaultList : Type 0
HaveOneFaultList = (files : List (List ℕ)) (xs ys : List Fault) → IsFaultList files xs → IsFaultList files ys → xs ≡ ys

-- files are one program at most
abbrev pub AreOneProgram : Type 0
AreOneProgram = (files : List (List ℕ)) (p q : List Class) → IsAccepted files p → IsAccepted files q → p ≡ q

-- no files are both a program and refused
abbrev pub AreNeverBoth : Type 0
AreNeverBoth = (files : List (List ℕ)) (p : List Class) (faults : List Fault) → IsAccepted files p → IsRefused files faults → ⊥

-- files that are accepted have no fault
abbrev pub AreFaultlessWhereAccepted : Type 0
AreFaultlessWhereAccepted = (files : List (List ℕ)) (p : List Class) → IsAccepted files p → IsFaultList files []

-- no files are both faultless before typing and refused by a phase before it
abbrev pub AreNeverBothUntyped : Type 0
AreNeverBothUntyped = (files : List (List ℕ)) (u : Untyped) (faults : List Fault) → IsUntyped files u → IsRefusedEarly files faults → ⊥

-- The faults of classes and features among these are those of the rows: each is one of a row, each row of classes that holds is among
-- them, and so is each row of features where no row of classes holds.
pub record AreOfRows (ds : List ClassDef) (faults : List Fault) : Type 0 where
  pub only : (f : ClassFault) → Contains faults (OfClasses f) → IsClassFault ds f.kind f.at ⊎ IsTableFault ds f.kind f.at
  pub classes : (kind : ClassKind) (at : Place) → IsClassFault ds kind at → Contains faults (OfClasses (record { kind = kind; at = at }))
  pub features : ((kind : ClassKind) (at : Place) → IsClassFault ds kind at → ⊥)
      → (kind : ClassKind) (at : Place) → IsTableFault ds kind at → Contains faults (OfClasses (record { kind = kind; at = at }))

-- so are those in the fault list of files that are trees
abbrev pub HaveFaultsOfRows : Type 0
HaveFaultsOfRows = (files : List (List ℕ)) (trees : List FileTree) (faults : List Fault) → AreTrees 0 files trees → IsFaultList files faults → AreOfRows (definitions trees) faults

-- and files without a fault, within the limits on their number and their bytes, are accepted
abbrev pub AreAcceptedWhereFaultless : Type 0
AreAcceptedWhereFaultless = (files : List (List ℕ)) → length files ≤ MOST_FILES → total files ≤ MOST_SOURCE_BYTES → IsFaultList files [] → (p : List Class) × IsAccepted files p

-- files are a program, or are refused with their fault list
abbrev pub HasVerdict : List (List ℕ) → Type 0
HasVerdict files = ((p : List Class) × IsAccepted files p) ⊎ ((faults : List Fault) × IsRefused files faults)

-- so is it of all files within these limits
abbrev pub HaveVerdicts : Type 0
HaveVerdicts = (files : List (List ℕ)) → length files ≤ MOST_FILES → total files ≤ MOST_SOURCE_BYTES → HasVerdict files
