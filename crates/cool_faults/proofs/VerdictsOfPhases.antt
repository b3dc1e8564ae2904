-- If a phase of the front end finds errors, the files are rejected with these errors; if type checking finds none, they are accepted.
use Rattle.std.proofs.Common.{◌≡◌, ℕ, ◌+◌, ◌<◌, ◌≤◌, List, [], ◌∷◌, length, map, inl, inr, refl, sym, subst, arith}
use Rattle.std.specs.List.{AllByRecursion}
use Rattle.std.specs.Prelude.{Result, Ok, Err, MatchResult, IfOk, IfErr, OnOk}
use Rattle.std.specs.List.Sorted.{IsPermutation}
use Rattle.std.specs.Global.{Vec}
use Rattle.cool_syntax.specs.declared.TheConstants.{MOST_FILES, MOST_SOURCE_BYTES}
use Rattle.cool_syntax.specs.declared.file_tree.FileTree.{FileTree}
use Rattle.cool_syntax.specs.TreesWithinLimits.{AreClassesWithin}
use Rattle.cool_lexer.specs.declared.lexer.Lexed.{Lexed}
use Rattle.cool_classes.specs.Chains.{Class}
use Rattle.cool_classes.specs.ClassFaults.{classes_meant, feature_phase, HasClassPhase}
use Rattle.cool_classes.specs.Definitions.{definitions, AreFew, IsTableOf}
use Rattle.cool_classes.specs.Limits.{KeepsLimits}
use Rattle.cool_classes.specs.Tables.{IsTable}
use Rattle.cool_classes.proofs.RowsExact.{accepted_rows}
use Rattle.cool_check.specs.Faults.{AreWithin}
use Rattle.cool_check.specs.TypingFaults.{typing_faults}
use Rattle.cool_rules.specs.Fits.{Fits}
use Rattle.cool_rules.specs.TypedTables.{IsTypedTable}
use Rattle.cool_faults.specs.declared.fault.Refusal.{Refusal}
use Rattle.cool_faults.specs.declared.fault.Refusal.TheVariants as refusal
use Rattle.cool_faults.specs.declared.fault.Fault.TheVariants.{Typing}
use Rattle.cool_faults.specs.Files.{bytes_of, total}
use Rattle.cool_faults.specs.Phases.{AreFound, AreFaultsFound, IsLexed, IsLexical, IsParsed, IsSyntactic, AreTableFaults, AreTypingFaults, IsClassRefusal, IsTypeRefusal, ArePlaced, IsRefusedWith}
use Rattle.cool_faults.specs.Verdicts.{of_lexer, of_parser, of_classes, of_features, of_typing, faulty, IsPhase, IsAccepted}
use Rattle.cool_faults.proofs.FindingsInARow.{AllFound, all_found}
use Rattle.cool_faults.proofs.OrderOfFaults.{InRisingFiles, rising_in_order, rising_placed}
use Rattle.cool_faults.proofs.LexicalFaults.{lexical_faults, lexical_rising}
use Rattle.cool_faults.proofs.SyntaxFaults.{IsWhole, wholes_of, are_trees, tokens_few, as_many, syntax_faults, syntactic_rising}
use Rattle.cool_faults.proofs.DefinitionsOfTrees.{definitions_within, definitions_bounded, definitions_light, definitions_few}
use Rattle.cool_faults.proofs.TablesFit.{table_within, table_fits}

-- there are as many lists of bytes as files
pub as_many_files : (files : List (Vec ℕ)) → length (bytes_of files) ≡ length files
as_many_files [] = refl
as_many_files (f ∷ fs) = omega (arith, as_many_files fs)

-- the lexer's faults refuse the files
pub lexer_refuses : (files : List (List ℕ)) (e : Refusal) → total files ≤ MOST_SOURCE_BYTES → AreFaultsFound IsLexed IsLexical files e → IsRefusedWith files e
lexer_refuses files refusal.Memory small h = tt
lexer_refuses files (refusal.Faults faults) small (some, (ts, found)) =
    let all : 0 + length files ≤ length files = omega arith in
    let rising : InRisingFiles (length files) 0 faults = lexical_rising (length files) all small found in
    record {
      list = faulty faults some (of_lexer (lexical_faults found)) (rising_in_order (length files) 0 faults rising);
      some = some;
      places = λ h. rising_placed (length files) 0 faults rising;
    }

-- the tokens of each file are few enough for the parser
pub lexed_few : (files : List (List ℕ)) (ls : List Lexed) → total files ≤ MOST_SOURCE_BYTES → AreFound IsLexed IsLexical 0 files ls []
    → AllByRecursion (λ l. length l.tokens.items ≤ MOST_SOURCE_BYTES) ls
lexed_few files ls small found = tokens_few 0 files ls (all_found IsLexed IsLexical found refl) small

-- there are as many lists of tokens as files
pub lexed_as_many : (files : List (List ℕ)) (ls : List Lexed) → AreFound IsLexed IsLexical 0 files ls [] → length ls ≡ length files
lexed_as_many files ls found = as_many IsLexed 0 files ls (all_found IsLexed IsLexical found refl)

-- the parser's faults refuse the files
pub parser_refuses : (files : List (List ℕ)) (ls : List Lexed) (e : Refusal) → total files ≤ MOST_SOURCE_BYTES → AreFound IsLexed IsLexical 0 files ls [] → AreFaultsFound IsParsed IsSyntactic ls e
    → IsRefusedWith files e
parser_refuses files ls refusal.Memory small lexed h = tt
parser_refuses files ls (refusal.Faults faults) small lexed (some, (ts, found)) =
    let all : 0 + length files ≤ length files = omega arith in
    let good : AllFound IsLexed 0 files ls = all_found IsLexed IsLexical lexed refl in
    let rising : InRisingFiles (length files) 0 faults = syntactic_rising (length files) found files good all small in
    record {
      list = faulty faults some (of_parser (syntax_faults found files good)) (rising_in_order (length files) 0 faults rising);
      some = some;
      places = λ h. rising_placed (length files) 0 faults rising;
    }

-- with no fault of the lexer and the parser, each file is a tree
pub files_whole : (files : List (List ℕ)) (ls : List Lexed) (ts : List FileTree) → AreFound IsLexed IsLexical 0 files ls [] → AreFound IsParsed IsSyntactic 0 ls ts [] → AllFound IsWhole 0 files ts
files_whole files ls ts lexed found = wholes_of 0 files ls ts (all_found IsLexed IsLexical lexed refl) (all_found IsParsed IsSyntactic found refl)

-- the same, where the parser reads a slice of the tokens
pub files_of_slice : (files : List (List ℕ)) (ls slice : List Lexed) (ts : List FileTree) → AreFound IsLexed IsLexical 0 files ls [] → slice ≡ ls → AreFound IsParsed IsSyntactic 0 slice ts []
    → AllFound IsWhole 0 files ts
files_of_slice files ls slice ts lexed e found = files_whole files ls ts lexed (subst (λ (l : List Lexed). AreFound IsParsed IsSyntactic 0 l ts []) e found)

-- the definitions are few enough for the table
pub trees_few : (files : List (List ℕ)) (ts : List FileTree) → total files ≤ MOST_SOURCE_BYTES → AllFound IsWhole 0 files ts → AreFew (definitions ts)
trees_few files ts small h = definitions_few (definitions ts) (omega (arith, definitions_light 0 files ts h))

-- faults of classes or features refuse the files
pub classes_refuse : (files : List (List ℕ)) (ts : List FileTree) (e : Refusal) → AllFound IsWhole 0 files ts → AreTableFaults (definitions ts) e → IsClassRefusal e
    → ((n : ℕ) → 0 < n → AreClassesWithin n (definitions ts) → ArePlaced n e) → IsRefusedWith files e
classes_refuse files ts refusal.Memory whole exact h placed = tt
classes_refuse files ts (refusal.Faults faults) whole exact h placed =
    let all : 0 + length files ≤ length files = omega arith in
    let phase : IsPhase files faults = elim exact [
      | inl classes ↦ of_classes ts classes.0 (are_trees 0 files ts whole) classes.1 classes.2
      | inr features ↦ of_features ts (are_trees 0 files ts whole) features.0 features.1
    ] in
    record {
      list = faulty faults h.0 phase h.2;
      some = h.0;
      places = λ some. placed (length files) some (definitions_within (length files) 0 files ts all whole);
    }

-- the table keeps the limits, for so many files or more
pub table_of_trees_fits : (files : List (List ℕ)) (ts : List FileTree) (p : List Class) (count : ℕ) → total files ≤ MOST_SOURCE_BYTES → length files ≤ count → count ≤ MOST_FILES → AllFound IsWhole 0 files ts
    → IsTableOf (definitions ts) p → IsTable p → KeepsLimits p → Fits p count
table_of_trees_fits files ts p count small many few whole of t keeps =
    let all : 0 + length files ≤ count = omega arith in
    table_fits count p (definitions ts) few t keeps (definitions_bounded 0 files ts whole) (definitions_within count 0 files ts all whole)
    (omega (arith, definitions_light 0 files ts whole)) of

-- no definition and no feature has a fault
abbrev pub HaveNoFault : List FileTree → Type 0
HaveNoFault ts = HasClassPhase (definitions ts) [] × (feature_phase (definitions ts) ≡ [])

-- faults of typing refuse the files
pub typing_refuses : (files : List (List ℕ)) (ts : List FileTree) (p : List Class) (e : Refusal) → AllFound IsWhole 0 files ts → IsTableOf (definitions ts) p → p ≡ classes_meant (definitions ts) → HaveNoFault ts
    → IsTable p → AreTypingFaults p e → IsTypeRefusal e → ((n : ℕ) → AreWithin n p → ArePlaced n e) → IsRefusedWith files e
typing_refuses files ts p refusal.Memory whole of meant none t exact h placed = tt
typing_refuses files ts p (refusal.Faults faults) whole of meant none t exact h placed =
    let all : 0 + length files ≤ length files = omega arith in
    let within : AreClassesWithin (length files) (definitions ts) = definitions_within (length files) 0 files ts all whole in
    let phase : IsPhase files faults = of_typing ts (are_trees 0 files ts whole) none.0 none.1 (subst (λ (q : List Class). IsPermutation (map Typing (typing_faults q)) faults) meant exact) in
    record {
      list = faulty faults h.0 phase h.2;
      some = h.0;
      places = λ some. placed (length files) (table_within (length files) p (definitions ts) t (definitions_bounded 0 files ts whole) within of);
    }

-- a table with no fault of typing is the program of the files
pub table_accepted : (files : List (List ℕ)) (ts : List FileTree) (p q : List Class) → total files ≤ MOST_SOURCE_BYTES → length files ≤ MOST_FILES → AllFound IsWhole 0 files ts
    → IsTableOf (definitions ts) p → p ≡ classes_meant (definitions ts) → HaveNoFault ts → IsTable p → KeepsLimits p → q ≡ p → typing_faults p ≡ [] → IsTypedTable p → IsAccepted files q
table_accepted files ts p q small few whole of meant none t keeps e well typed =
    let all : length files ≤ length files = omega arith in
    subst (IsAccepted files) (sym e)
    (record {
      trees = ts;
      are_trees = are_trees 0 files ts whole;
      rows = accepted_rows (definitions ts) none.0 none.1;
      table = of;
      typed = typed;
      fits = table_of_trees_fits files ts p (length files) small all few whole of t keeps;
    })

-- the answer of typing is the verdict
pub typing_decides : (files : List (List ℕ)) (ts : List FileTree) (p : List Class) (r : Result (List Class) Refusal) → total files ≤ MOST_SOURCE_BYTES → length files ≤ MOST_FILES
    → AllFound IsWhole 0 files ts → IsTableOf (definitions ts) p → p ≡ classes_meant (definitions ts) → HaveNoFault ts → IsTable p → KeepsLimits p → IfOk r (λ q. q ≡ p) → OnOk r (typing_faults p ≡ []) → OnOk r (IsTypedTable p)
    → IfErr r (AreTypingFaults p) → IfErr r IsTypeRefusal → ((n : ℕ) → AreWithin n p → IfErr r (ArePlaced n))
    → MatchResult r (IsAccepted files) (IsRefusedWith files)
typing_decides files ts p (Ok q) small few whole of meant none t keeps same well typed exact refused placed = table_accepted files ts p q small few whole of meant none t keeps same well typed
typing_decides files ts p (Err e) small few whole of meant none t keeps same well typed exact refused placed = typing_refuses files ts p e whole of meant none t exact refused placed
