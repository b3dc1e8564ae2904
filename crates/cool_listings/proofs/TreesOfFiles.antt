-- The classes of the files of a program are in its class table in the order of the files, each with its features.
use Rattle.std.proofs.Common.{◌≡◌, ℕ, zero, suc, ◌+◌, ◌∙◌, ◌<◌, ◌≤◌, List, [], ◌∷◌, ◌++◌, codes, length, drop, get_or, ap, sym, refl, subst, append-nil, append_assoc, arith}
use Rattle.std.specs.Prelude.{Option, Some, None, Result, Ok, Err, IfOk, OnOk}
use Rattle.cool_syntax.specs.declared.file_tree.ClassDef.{ClassDef}
use Rattle.cool_syntax.specs.declared.file_tree.FileTree.{FileTree}
use Rattle.cool_syntax.specs.declared.token.Token.{Token}
use Rattle.cool_syntax.specs.declared.place.Place.{Place}
use Rattle.cool_syntax.specs.Grammar.{Parses, IsUnexpected}
use Rattle.cool_syntax.specs.LexicalStructure.{Lexes, LexFault as IsLexFault, place_at}
use Rattle.cool_syntax.specs.Tree.{Tree}
use Rattle.cool_syntax.specs.Weights.{classes_weight}
use Rattle.cool_lexer.specs.declared.error.LexFault.{LexFault}
use Rattle.cool_extents.specs.declared.extent.Extent.{Extent}
use Rattle.cool_extents.specs.Extents.{TellsExtents}
use Rattle.cool_lexer.proofs.OneReading.{one_cutting}
use Rattle.cool_parser.proofs.ParsingIsTheGrammar.{one_tree}
use Rattle.cool_classes.specs.Chains.{Class, class_number, features_of, nothing}
use Rattle.cool_classes.specs.Definitions.{AreDefinedBy, definitions}
use Rattle.cool_faults.specs.Files.{bytes_of, total}
use Rattle.cool_faults.specs.Verdicts.{AreTrees}
use Rattle.std.specs.Global.{Vec}
use Rattle.cool_listings.specs.Columns.{FitsClass, FitsClasses, IsAdded, IsOfFiles}
use Rattle.cool_listings.specs.TokenLines.{fault_line, lex_word}
use Rattle.cool_listings.specs.TreeLines.{AreTreesOf, classes_text}
use Rattle.cool_listings.specs.TreeLines as lines

-- the first item of the rest of a list
item_left : (p : List Class) (k : ℕ) (c : Class) (cs : List Class) → drop k p ≡ c ∷ cs → (k < length p) × (get_or p k nothing ≡ c) × (drop (suc k) p ≡ cs)
item_left [] zero c cs e = absurd (let long = ap length e in omega arith)
item_left [] (suc k) c cs e = absurd (let long = ap length e in omega arith)
item_left (d ∷ p) zero c cs e = (omega arith, ap (λ (l : List Class). get_or l 0 nothing) e, ap (drop 1) e)
item_left (d ∷ p) (suc k) c cs e = let more = item_left p k c cs e in (omega (arith, more.0), more.1, more.2)

-- the definitions of a file have the next numbers, and those behind them the numbers behind
numbers_in : (p : List Class) (ds more : List ClassDef) (k : ℕ) (cs : List Class) → drop k p ≡ cs → AreDefinedBy p (ds ++ more) cs → FitsClasses (Some p) k ds × AreDefinedBy p more (drop (k + length ds) p)
numbers_in p [] more k cs e h =
    let past : k ≡ k + 0 = omega arith in
    (tt, subst (λ (j : ℕ). AreDefinedBy p more (drop j p)) past (subst (AreDefinedBy p more) (sym e) h))
numbers_in p (d ∷ ds) more k [] e h = absurd h
numbers_in p (d ∷ ds) more k (c ∷ cs) e h =
    let here = item_left p k c cs e in
    let rest = numbers_in p ds more (suc k) cs here.2 h.1 in
    let same : features_of p (class_number k) ≡ d.features = ap (λ (x : Class). x.features) here.1 ∙ h.0.1 in
    let past : suc k + length ds ≡ k + length (d ∷ ds) = omega arith in
    (((here.0, same), rest.0), subst (λ (j : ℕ). AreDefinedBy p more (drop j p)) past rest.1)

numbers_of : (p : List Class) (ds more : List ClassDef) (k : ℕ) → AreDefinedBy p (ds ++ more) (drop k p) → FitsClasses (Some p) k ds × AreDefinedBy p more (drop (k + length ds) p)
numbers_of p ds more k h = numbers_in p ds more k (drop k p) refl h

-- a file has no more bytes than all together
pub file_small : (files : List (Vec ℕ)) (i : ℕ) (file : Vec ℕ) → i < length files → file ≡ get_or files i file → length file.items ≤ total (bytes_of files)
file_small [] i file h is = absurd (omega arith)
file_small (f ∷ files) zero file h is = let long = ap (λ (v : Vec ℕ). length v.items) is in omega arith
file_small (f ∷ files) (suc i) file h is = let rest = file_small files i file (omega arith) is in omega arith

-- the conclusion holds if a call succeeds and it follows there
pub on_ok : {A E : Type 0} {P Q : Type 0} (r : Result A E) → (P → Q) → OnOk r P → OnOk r Q
on_ok (Ok a) f h = f h
on_ok (Err e) f h = tt

pub on_ok_both : {A E : Type 0} {P Q R : Type 0} (r : Result A E) → (P → Q → R) → OnOk r P → OnOk r Q → OnOk r R
on_ok_both (Ok a) f h g = f h g
on_ok_both (Err e) f h g = tt

-- The files that are left, of which the first has this number, are trees whose classes have the numbers in the program from this one on.
abbrev pub AreLeft : Option (List Class) → ℕ → ℕ → List (List ℕ) → Type 0
AreLeft None file number files = Unit {0}
AreLeft (Some p) file number files = (trees : List FileTree) × AreTrees file files trees × AreDefinedBy p (definitions trees) (drop number p)

-- with no program, each class fits
none_fits : (number : ℕ) (classes : List ClassDef) → FitsClasses None number classes
none_fits number [] = tt
none_fits number (d ∷ ds) = (tt, none_fits (suc number) ds)

-- the classes of the first of the files fit
pub first_fits : (p : Option (List Class)) (file number : ℕ) (bytes : List ℕ) (files : List (List ℕ)) → AreLeft p file number (bytes ∷ files)
    → (tokens : List Token) (classes : List ClassDef) → Lexes file bytes tokens → Parses tokens classes → FitsClasses p number classes
first_fits None file number bytes files h tokens classes lexes parses = none_fits number classes
first_fits (Some p) file number bytes files (trees, are, defined) tokens classes lexes parses = by trees are defined
  where
    by : (trees : List FileTree) → AreTrees file (bytes ∷ files) trees → AreDefinedBy p (definitions trees) (drop number p) → FitsClasses (Some p) number classes
    by [] a d = absurd a
    by (t ∷ ts) a d =
        let same : a.0.tokens ≡ tokens = one_cutting file bytes a.0.tokens tokens a.0.lexes lexes in
        let one : t.classes ≡ classes = one_tree tokens t.classes classes (subst (λ (us : List Token). Parses us t.classes) same a.0.parses) parses in
        subst (FitsClasses (Some p) number) one (numbers_of p t.classes (definitions ts) number d).0

-- and those behind it are left
pub others_left : (p : Option (List Class)) (file number next : ℕ) (bytes : List ℕ) (files : List (List ℕ)) → AreLeft p file number (bytes ∷ files)
    → ((tokens : List Token) (classes : List ClassDef) → Lexes file bytes tokens → Parses tokens classes → next ≡ number + length classes) → AreLeft p (file + 1) next files
others_left None file number next bytes files h is = tt
others_left (Some p) file number next bytes files (trees, are, defined) is = by trees are defined
  where
    by : (trees : List FileTree) → AreTrees file (bytes ∷ files) trees → AreDefinedBy p (definitions trees) (drop number p) → AreLeft (Some p) (file + 1) next files
    by [] a d = absurd a
    by (t ∷ ts) a d =
        (ts, a.1, subst (λ (j : ℕ). AreDefinedBy p (definitions ts) (drop j p)) (sym (is a.0.tokens t.classes a.0.lexes a.0.parses)) (numbers_of p t.classes (definitions ts) number d).1)

-- all files of a program are left at first
pub all_left : (p : Option (List Class)) (files : List (List ℕ)) → IsOfFiles p files → AreLeft p 0 5 files
all_left None files h = tt
all_left (Some p) files h = (h.trees, h.are_trees, h.table)

-- the lines go on with whatever is told of the files that are left
abbrev pub GoesOn : Option (List Class) → List (List ℕ) → ℕ → ℕ → List (List ℕ) → List ℕ → Type 0
GoesOn p all file number left text = (rest : List ℕ) → AreTreesOf p file number left rest → AreTreesOf p 0 5 all (text ++ rest)

-- one file more
pub file_more : (p : Option (List Class)) (all : List (List ℕ)) (file number next : ℕ) (here left : List (List ℕ)) (bytes old new : List ℕ)
    → here ≡ bytes ∷ left → IsAdded p file bytes number next old new → GoesOn p all file number here old → GoesOn p all (file + 1) next left new
file_more p all file number next here left bytes old new e (piece, is, leads) h =
    λ rest more.
    let before : AreTreesOf p file number here (piece ++ rest) = subst (λ (l : List (List ℕ)). AreTreesOf p file number l (piece ++ rest)) (sym e) (leads left rest more) in
    subst (AreTreesOf p 0 5 all) (sym (ap (λ (l : List ℕ). l ++ rest) is ∙ append_assoc old piece rest)) (h (piece ++ rest) before)

-- no file is left
pub file_end : (p : Option (List Class)) (all : List (List ℕ)) (file number : ℕ) (left : List (List ℕ)) (text : List ℕ) → left ≡ [] → GoesOn p all file number left text → AreTreesOf p 0 5 all text
file_end p all file number left text e h =
    let last : AreTreesOf p file number left [] = subst (λ (l : List (List ℕ)). AreTreesOf p file number l []) (sym e) (lines.none file number) in
    subst (AreTreesOf p 0 5 all) (append-nil text) (h [] last)

-- a file with a tree was added
pub tree_added : (p : Option (List Class)) (file number next : ℕ) (bytes : List ℕ) (tokens : List Token) (classes : List ClassDef) (told : Tree → List Extent) (old new : List ℕ) → Lexes file bytes tokens → Parses tokens classes
    → TellsExtents tokens told → next ≡ number + length classes → new ≡ old ++ classes_text p told number classes → IsAdded p file bytes number next old new
tree_added p file number next bytes tokens classes told old new lexes parses tells behind is = (
  classes_text p told number classes,
  is,
  λ files rest more. lines.tree file number bytes files tokens classes rest lexes parses told tells (subst (λ (j : ℕ). AreTreesOf p (file + 1) j files rest) behind more),
)

-- a file whose tokens are no tree
pub fault_added : (p : Option (List Class)) (file number next : ℕ) (bytes : List ℕ) (tokens : List Token) (at : Place) (old new : List ℕ) → Lexes file bytes tokens
    → IsUnexpected tokens (place_at file bytes (length bytes)) at → next ≡ number → new ≡ old ++ fault_line at (codes "S1") → IsAdded p file bytes number next old new
fault_added p file number next bytes tokens at old new lexes stops behind is = (
  fault_line at (codes "S1"),
  is,
  λ files rest more. lines.syntactic file number bytes files tokens at rest lexes stops (subst (λ (j : ℕ). AreTreesOf p (file + 1) j files rest) behind more),
)

-- a file with a lexical fault
pub lexical_added : (p : Option (List Class)) (file number next : ℕ) (bytes : List ℕ) (fault : LexFault) (old new : List ℕ) → IsLexFault file bytes fault.kind fault.at
    → next ≡ number → new ≡ old ++ fault_line fault.at (lex_word fault.kind) → IsAdded p file bytes number next old new
lexical_added p file number next bytes fault old new faulty behind is = (
  fault_line fault.at (lex_word fault.kind),
  is,
  λ files rest more. lines.lexical_fault file number bytes files fault rest faulty (subst (λ (j : ℕ). AreTreesOf p (file + 1) j files rest) behind more),
)

-- classes are no more than they weigh
pub few_classes : (classes : List ClassDef) → length classes ≤ classes_weight classes
few_classes [] = omega arith
few_classes (d ∷ ds) = let more = few_classes ds in omega arith

pub if_ok : {A E : Type 0} {P Q : A → Type 0} (r : Result A E) → ((a : A) → P a → Q a) → IfOk r P → IfOk r Q
if_ok (Ok a) f h = f a h
if_ok (Err e) f h = tt
