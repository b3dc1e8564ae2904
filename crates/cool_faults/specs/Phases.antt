-- `AreFound` defines the results and the errors of a phase of the front end: in order, each valid input gives a result, and each other input gives an
-- error.
use Rattle.std.specs.Prelude.{◌≡◌, ◌≢◌, ◌⊎◌, ℕ, ◌+◌, ◌<◌, ◌≤◌, List, [], ◌∷◌, ◌++◌, map, length}
use Rattle.std.specs.List.{AllByRecursion}
use Rattle.std.specs.List.Sorted.{IsPermutation}
use Rattle.cool_syntax.specs.declared.file_tree.FileTree.{FileTree}
use Rattle.cool_syntax.specs.FaultOrder.{AreInOrder}
use Rattle.cool_syntax.specs.FeatureSizes.{IsBoundedClass}
use Rattle.cool_syntax.specs.Grammar.{Parses, IsUnexpected}
use Rattle.cool_syntax.specs.LexicalStructure.{Lexes, LexFault as IsLexFault, FitsRuns, first_run}
use Rattle.cool_syntax.specs.TokenFacts.{AreWithinLimits, AreRising, IsPlaced, weights}
use Rattle.cool_syntax.specs.TreesWithinLimits.{AreClassesWithin}
use Rattle.cool_syntax.specs.Weights.{classes_weight}
use Rattle.cool_lexer.specs.declared.lexer.Lexed.{Lexed}
use Rattle.cool_syntax.specs.declared.file_tree.ClassDef.{ClassDef}
use Rattle.cool_classes.specs.declared.fault.ClassFault.{ClassFault}
use Rattle.cool_classes.specs.Chains.{Class}
use Rattle.cool_classes.specs.ClassFaults.{feature_phase, HasClassPhase}
use Rattle.cool_check.specs.TypingFaults.{typing_faults}
use Rattle.cool_faults.specs.declared.fault.Fault.{Fault}
use Rattle.cool_faults.specs.declared.fault.Fault.TheVariants.{Lex, Syntax, Class as OfClasses, Typing}
use Rattle.cool_faults.specs.declared.fault.Refusal.{Refusal}
use Rattle.cool_faults.specs.declared.fault.Refusal.TheVariants as refusal
use Rattle.cool_faults.specs.declared.findings.Findings.{Findings}
use Rattle.cool_faults.specs.Verdicts.{IsOfClasses, IsOfTyping, IsRefused, end_of, place_of, standing_of}

-- The inputs from this number on give these results and these faults, each input one of the two.
pub data AreFound {I T : Type 0} (IsGood : ℕ → I → T → Type 0) (IsBad : ℕ → I → Fault → Type 0) : ℕ → List I → List T → List Fault → Type 0 where
  none : (i : ℕ) → AreFound IsGood IsBad i [] [] []
  good : (i : ℕ) (x : I) (xs : List I) (t : T) (ts : List T) (fs : List Fault) → IsGood i x t → AreFound IsGood IsBad (i + 1) xs ts fs → AreFound IsGood IsBad i (x ∷ xs) (t ∷ ts) fs
  bad : (i : ℕ) (x : I) (xs : List I) (f : Fault) (ts : List T) (fs : List Fault) → IsBad i x f → AreFound IsGood IsBad (i + 1) xs ts fs → AreFound IsGood IsBad i (x ∷ xs) ts (f ∷ fs)

-- a good result, or a bad fault, is added at the end
abbrev pub Adds : {T : Type 0} → (T → Type 0) → (Fault → Type 0) → Findings T → Findings T → Type 0
Adds {T} IsGood IsBad old new =
    ((t : T) × IsGood t × (new.results ≡ old.results ++ t ∷ []) × (new.faults ≡ old.faults))
    ⊎ ((f : Fault) × IsBad f × (new.results ≡ old.results) × (new.faults ≡ old.faults ++ f ∷ []))

-- out of memory
abbrev pub IsMemory : Refusal → Type 0
IsMemory refusal.Memory = Unit {0}
IsMemory (refusal.Faults faults) = ⊥

-- the faults, where there are any, are those of some findings
abbrev pub AreFaultsFound : {I T : Type 0} → (ℕ → I → T → Type 0) → (ℕ → I → Fault → Type 0) → List I → Refusal → Type 0
AreFaultsFound IsGood IsBad xs refusal.Memory = Unit {0}
AreFaultsFound {I} {T} IsGood IsBad xs (refusal.Faults faults) = (faults ≢ []) × ((ts : List T) × AreFound IsGood IsBad 0 xs ts faults)

-- the faults stand here
abbrev pub AreFaultsOf : List Fault → Refusal → Type 0
AreFaultsOf fs refusal.Memory = ⊥
AreFaultsOf fs (refusal.Faults faults) = (faults ≢ []) × (faults ≡ fs)

-- the bytes of the file of this number are these tokens, within the limits
pub record IsLexed (file : ℕ) (bytes : List ℕ) (lexed : Lexed) : Type 0 where
  pub lexes : Lexes file bytes lexed.tokens.items
  pub end : lexed.end ≡ end_of file bytes
  pub limits : (files : ℕ) → file < files → AreWithinLimits files lexed.tokens.items
  pub rising : AreRising file 0 lexed.tokens.items
  pub few : length lexed.tokens.items ≤ length bytes
  pub weight : weights lexed.tokens.items ≤ length bytes

-- the first fault of the file of this number
abbrev pub IsLexical : ℕ → List ℕ → Fault → Type 0
IsLexical file bytes (Lex f) = IsLexFault file bytes f.kind f.at
IsLexical file bytes (Syntax f) = ⊥
IsLexical file bytes (OfClasses f) = ⊥
IsLexical file bytes (Typing f) = ⊥

-- tokens are this tree, which keeps the limits that they keep
pub record IsParsed (file : ℕ) (lexed : Lexed) (tree : FileTree) : Type 0 where
  pub number : tree.file ≡ file
  pub whole : Parses lexed.tokens.items tree.classes
  pub limits : (files : ℕ) → AreWithinLimits files lexed.tokens.items → AreClassesWithin files tree.classes
  pub weight : classes_weight tree.classes ≤ weights lexed.tokens.items
  pub bounded : FitsRuns first_run lexed.tokens.items → AllByRecursion IsBoundedClass tree.classes

-- the fault of tokens that are no tree
abbrev pub IsSyntactic : ℕ → Lexed → Fault → Type 0
IsSyntactic file lexed (Lex f) = ⊥
IsSyntactic file lexed (Syntax f) = IsUnexpected lexed.tokens.items lexed.end f.at
IsSyntactic file lexed (OfClasses f) = ⊥
IsSyntactic file lexed (Typing f) = ⊥

-- faults of classes and features, or out of memory
abbrev pub IsClassRefusal : Refusal → Type 0
IsClassRefusal refusal.Memory = Unit {0}
IsClassRefusal (refusal.Faults faults) = (faults ≢ []) × AllByRecursion IsOfClasses faults × AreInOrder standing_of faults

-- faults of typing, or out of memory
abbrev pub IsTypeRefusal : Refusal → Type 0
IsTypeRefusal refusal.Memory = Unit {0}
IsTypeRefusal (refusal.Faults faults) = (faults ≢ []) × AllByRecursion IsOfTyping faults × AreInOrder standing_of faults

-- the faults of classes if there are any, and else those of features, of these definitions, in some order; or out of memory
abbrev pub AreTableFaults : List ClassDef → Refusal → Type 0
AreTableFaults ds refusal.Memory = Unit {0}
AreTableFaults ds (refusal.Faults faults) =
    ((fs : List ClassFault) × HasClassPhase ds fs × IsPermutation (map OfClasses fs) faults) ⊎ (HasClassPhase ds [] × IsPermutation (map OfClasses (feature_phase ds)) faults)

-- the faults of typing of a table, in some order; or out of memory
abbrev pub AreTypingFaults : List Class → Refusal → Type 0
AreTypingFaults p refusal.Memory = Unit {0}
AreTypingFaults p (refusal.Faults faults) = IsPermutation (map Typing (typing_faults p)) faults

-- the faults stand in one of so many files
abbrev pub ArePlaced : ℕ → Refusal → Type 0
ArePlaced files refusal.Memory = Unit {0}
ArePlaced files (refusal.Faults faults) = AllByRecursion (λ f. IsPlaced files (place_of f)) faults

-- files are refused with these faults; out of memory says nothing of them
abbrev pub IsRefusedWith : List (List ℕ) → Refusal → Type 0
IsRefusedWith files refusal.Memory = Unit {0}
IsRefusedWith files (refusal.Faults faults) = IsRefused files faults
