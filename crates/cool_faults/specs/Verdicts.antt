-- `IsAccepted` and `IsRefused` define the result of the front end for source files: a program with its trees and class table, or the errors of the first
-- phase that finds any.
use Rattle.std.specs.Prelude.{◌≡◌, ◌≢◌, ℕ, ◌+◌, ◌<◌, List, [], ◌∷◌, map, length}
use Rattle.std.specs.List.{AllByRecursion}
use Rattle.std.specs.List.Sorted.{IsPermutation}
use Rattle.cool_syntax.specs.declared.place.Place.{Place}
use Rattle.cool_syntax.specs.declared.token.Token.{Token}
use Rattle.cool_syntax.specs.declared.lexical.LexKind.{LexKind}
use Rattle.cool_syntax.specs.declared.lexical.LexKind.TheVariants as lexical
use Rattle.cool_syntax.specs.declared.file_tree.FileTree.{FileTree}
use Rattle.cool_syntax.specs.FaultOrder.{Standing, AreInOrder}
use Rattle.cool_syntax.specs.Grammar.{Parses, IsUnexpected}
use Rattle.cool_syntax.specs.LexicalStructure.{Lexes, LexFault as IsLexFault, place_at}
use Rattle.cool_syntax.specs.TokenFacts.{IsPlaced}
use Rattle.cool_lexer.specs.declared.error.LexFault.{LexFault}
use Rattle.cool_parser.specs.declared.fault.ParseFault.{ParseFault}
use Rattle.cool_classes.specs.declared.fault.ClassFault.{ClassFault}
use Rattle.cool_classes.specs.Chains.{Class}
use Rattle.cool_classes.specs.ClassFaults.{classes_meant, feature_phase, HasClassPhase}
use Rattle.cool_classes.specs.ClassRows.{HasNoRow}
use Rattle.cool_classes.specs.Definitions.{definitions, IsTableOf}
use Rattle.cool_classes.specs.FaultLists.{rank as class_rank}
use Rattle.cool_check.specs.Faults.{rank as type_rank}
use Rattle.cool_check.specs.TypingFaults.{typing_faults}
use Rattle.cool_rules.specs.Fits.{Fits}
use Rattle.cool_rules.specs.TypedTables.{IsTypedTable}
use Rattle.cool_faults.specs.declared.fault.Fault.{Fault}
use Rattle.cool_faults.specs.declared.fault.Fault.TheVariants.{Lex, Syntax, Class as OfClasses, Typing}
use Rattle.cool_faults.specs.declared.fault.Verdict.{Verdict}
use Rattle.cool_faults.specs.declared.fault.Verdict.TheVariants.{Accepted, Refused}

-- the place of a fault
abbrev pub place_of : Fault → Place
place_of (Lex f) = f.at
place_of (Syntax f) = f.at
place_of (OfClasses f) = f.at
place_of (Typing f) = f.at

-- the kinds in their order: L1 to L8, S1, C1 to C7, F1 to F9, E1 to E18
abbrev pub lex_rank : LexKind → ℕ
lex_rank lexical.L1 = 0
lex_rank lexical.L2 = 1
lex_rank lexical.L3 = 2
lex_rank lexical.L4 = 3
lex_rank lexical.L5 = 4
lex_rank lexical.L6 = 5
lex_rank lexical.L7 = 6
lex_rank lexical.L8 = 7

abbrev pub rank : Fault → ℕ
rank (Lex f) = lex_rank f.kind
rank (Syntax f) = 8
rank (OfClasses f) = 9 + class_rank f.kind
rank (Typing f) = 25 + type_rank f.kind

abbrev pub standing_of : Fault → Standing
standing_of f = record { at = place_of f; rank = rank f }

-- the place after the last byte of a file
abbrev pub end_of : ℕ → List ℕ → Place
end_of file bytes = place_at file bytes (length bytes)

-- The bytes of the file of this number are this tree.
pub record IsTree (file : ℕ) (bytes : List ℕ) (tree : FileTree) : Type 0 where
  pub number : tree.file ≡ file
  pub tokens : List Token
  pub lexes : Lexes file bytes tokens
  pub parses : Parses tokens tree.classes

-- the files, of which the first has this number, are these trees
abbrev pub AreTrees : ℕ → List (List ℕ) → List FileTree → Type 0
AreTrees file [] [] = Unit {0}
AreTrees file [] (tree ∷ trees) = ⊥
AreTrees file (bytes ∷ files) [] = ⊥
AreTrees file (bytes ∷ files) (tree ∷ trees) = IsTree file bytes tree × AreTrees (file + 1) files trees

-- The lexical faults: the first of each file that has one.
pub data LexFaults : ℕ → List (List ℕ) → List Fault → Type 0 where
  none : (file : ℕ) → LexFaults file [] []
  good : (file : ℕ) (bytes : List ℕ) (files : List (List ℕ)) (faults : List Fault) (tokens : List Token) → Lexes file bytes tokens → LexFaults (file + 1) files faults → LexFaults file (bytes ∷ files) faults
  bad : (file : ℕ) (bytes : List ℕ) (files : List (List ℕ)) (faults : List Fault) (fault : LexFault) → IsLexFault file bytes fault.kind fault.at → LexFaults (file + 1) files faults
      → LexFaults file (bytes ∷ files) (Lex fault ∷ faults)

-- The syntax faults, where no file has a lexical fault: the first of each file that has one.
pub data SyntaxFaults : ℕ → List (List ℕ) → List Fault → Type 0 where
  none : (file : ℕ) → SyntaxFaults file [] []
  good : (file : ℕ) (bytes : List ℕ) (files : List (List ℕ)) (faults : List Fault) (tree : FileTree) → IsTree file bytes tree → SyntaxFaults (file + 1) files faults → SyntaxFaults file (bytes ∷ files) faults
  bad : (file : ℕ) (bytes : List ℕ) (files : List (List ℕ)) (faults : List Fault) (tokens : List Token) (fault : ParseFault) → Lexes file bytes tokens → IsUnexpected tokens (end_of file bytes) fault.at
      → SyntaxFaults (file + 1) files faults → SyntaxFaults file (bytes ∷ files) (Syntax fault ∷ faults)

-- all are faults of classes and features, or all are faults of typing
abbrev pub IsOfClasses : Fault → Type 0
IsOfClasses (Lex f) = ⊥
IsOfClasses (Syntax f) = ⊥
IsOfClasses (OfClasses f) = Unit {0}
IsOfClasses (Typing f) = ⊥

abbrev pub IsOfTyping : Fault → Type 0
IsOfTyping (Lex f) = ⊥
IsOfTyping (Syntax f) = ⊥
IsOfTyping (OfClasses f) = ⊥
IsOfTyping (Typing f) = Unit {0}

-- These faults are those of a phase, in one order or another, and no phase before it finds any: of the lexer or the parser the first of
-- each file, of classes and then of features all, of typing the first of each feature.
pub data IsPhase (files : List (List ℕ)) (faults : List Fault) : Type 0 where
  of_lexer : LexFaults 0 files faults → IsPhase files faults
  of_parser : SyntaxFaults 0 files faults → IsPhase files faults
  of_classes : (trees : List FileTree) (fs : List ClassFault) → AreTrees 0 files trees → HasClassPhase (definitions trees) fs → IsPermutation (map OfClasses fs) faults → IsPhase files faults
  of_features : (trees : List FileTree) → AreTrees 0 files trees → HasClassPhase (definitions trees) [] → IsPermutation (map OfClasses (feature_phase (definitions trees))) faults → IsPhase files faults
  of_typing : (trees : List FileTree) → AreTrees 0 files trees → HasClassPhase (definitions trees) [] → feature_phase (definitions trees) ≡ []
      → IsPermutation (map Typing (typing_faults (classes_meant (definitions trees)))) faults → IsPhase files faults

-- No phase finds a fault in the files: all are trees, and neither their classes, nor their features, nor their typing has one.
pub record AreFaultless (files : List (List ℕ)) : Type 0 where
  pub trees : List FileTree
  pub are_trees : AreTrees 0 files trees
  pub classes : HasClassPhase (definitions trees) []
  pub features : feature_phase (definitions trees) ≡ []
  pub typing : typing_faults (classes_meant (definitions trees)) ≡ []

-- The fault list of files: the faults of the first phase that finds any, in order; and none where no phase finds any.
pub data IsFaultList (files : List (List ℕ)) : List Fault → Type 0 where
  faultless : AreFaultless files → IsFaultList files []
  faulty : (faults : List Fault) → faults ≢ [] → IsPhase files faults → AreInOrder standing_of faults → IsFaultList files faults

-- Files are refused with their fault list, where it is not empty; each fault stands in one of the files, where there are any.
pub record IsRefused (files : List (List ℕ)) (faults : List Fault) : Type 0 where
  pub list : IsFaultList files faults
  pub some : faults ≢ []
  pub places : 0 < length files → AllByRecursion (λ f. IsPlaced (length files) (place_of f)) faults

-- Files are accepted as a program if they are trees, none of whose classes and features breaks a rule, and it is the table of these, is typed and keeps the
-- limits. The fault list is empty exactly then (`specs/Laws.antt`).
pub record IsAccepted (files : List (List ℕ)) (p : List Class) : Type 0 where
  pub trees : List FileTree
  pub are_trees : AreTrees 0 files trees
  pub rows : HasNoRow (definitions trees)
  pub table : IsTableOf (definitions trees) p
  pub typed : IsTypedTable p
  pub fits : Fits p (length files)

-- the verdict on files
abbrev pub IsVerdict : List (List ℕ) → Verdict → Type 0
IsVerdict files (Accepted p) = IsAccepted files p
IsVerdict files (Refused faults) = IsRefused files faults
