-- `IsUntyped` defines the tokens, the trees and the class table of files before type checking, and `IsRefusedEarly` the errors with which an earlier phase
-- rejects them.
use Rattle.std.specs.Prelude.{◌≡◌, ℕ, List, []}
use Rattle.std.specs.List.{AllByRecursion}
use Rattle.cool_syntax.specs.declared.TheConstants.{MOST_FILES}
use Rattle.cool_syntax.specs.declared.file_tree.FileTree.{FileTree}
use Rattle.cool_classes.specs.ClassFaults.{classes_meant, feature_phase, HasClassPhase}
use Rattle.cool_classes.specs.Definitions.{definitions, IsTableOf}
use Rattle.cool_classes.specs.Tables.{IsTable}
use Rattle.cool_classes.specs.Limits.{KeepsLimits}
use Rattle.cool_rules.specs.Fits.{Fits}
use Rattle.cool_faults.specs.declared.fault.Fault.{Fault}
use Rattle.cool_faults.specs.declared.fault.Fault.TheVariants.{Lex, Syntax, Class as OfClasses, Typing}
use Rattle.cool_faults.specs.declared.fault.Refusal.{Refusal}
use Rattle.cool_faults.specs.declared.fault.Refusal.TheVariants as refusal
use Rattle.cool_faults.specs.declared.fault.Untyped.{Untyped}
use Rattle.cool_faults.specs.declared.fault.ClassVerdict.{ClassVerdict}
use Rattle.cool_faults.specs.declared.fault.ClassVerdict.TheVariants as verdict
use Rattle.cool_faults.specs.Phases.{AreFound, IsLexed, IsLexical, IsParsed, IsSyntactic}
use Rattle.cool_faults.specs.Verdicts.{IsRefused}

-- The files have these tokens and this table: no phase before typing finds a fault.
pub record IsUntyped (files : List (List ℕ)) (u : Untyped) : Type 0 where
  pub lexed : AreFound IsLexed IsLexical 0 files u.lexed.items []
  pub trees : List FileTree
  pub parsed : AreFound IsParsed IsSyntactic 0 u.lexed.items trees []
  pub classes : HasClassPhase (definitions trees) []
  pub features : feature_phase (definitions trees) ≡ []
  pub table : IsTable u.classes
  pub of : IsTableOf (definitions trees) u.classes
  pub limits : KeepsLimits u.classes
  pub meant : u.classes ≡ classes_meant (definitions trees)
  pub fits : Fits u.classes MOST_FILES

-- a fault of a phase before typing
abbrev pub IsEarly : Fault → Type 0
IsEarly (Lex f) = Unit {0}
IsEarly (Syntax f) = Unit {0}
IsEarly (OfClasses f) = Unit {0}
IsEarly (Typing f) = ⊥

-- files are refused with their fault list, which is of a phase before typing
pub record IsRefusedEarly (files : List (List ℕ)) (faults : List Fault) : Type 0 where
  pub refused : IsRefused files faults
  pub early : AllByRecursion IsEarly faults

-- the same; out of memory says nothing of files
abbrev pub IsEarlyRefusal : List (List ℕ) → Refusal → Type 0
IsEarlyRefusal files refusal.Memory = Unit {0}
IsEarlyRefusal files (refusal.Faults faults) = IsRefusedEarly files faults

-- the verdict on files before typing
abbrev pub IsClassVerdict : List (List ℕ) → ClassVerdict → Type 0
IsClassVerdict files (verdict.Untyped u) = IsUntyped files u
IsClassVerdict files (verdict.Refused faults) = IsRefusedEarly files faults
