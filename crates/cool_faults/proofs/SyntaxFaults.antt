-- The results of the parsing phase are the syntax trees of the lexed files, or else the first syntax errors of the files, in the order of the files.
use Rattle.std.proofs.Common.{◌≡◌, inl, inr, ℕ, ◌+◌, ◌<◌, ◌≤◌, List, [], ◌∷◌, ◌++◌, length, refl, sym, subst, arith}
use Rattle.std.specs.List.{AllByRecursion}
use Rattle.cool_syntax.specs.declared.TheConstants.{MOST_SOURCE_BYTES}
use Rattle.cool_syntax.specs.declared.place.Place.{Place}
use Rattle.cool_syntax.specs.declared.token.Token.{Token}
use Rattle.cool_syntax.specs.declared.file_tree.FileTree.{FileTree}
use Rattle.cool_syntax.specs.FeatureSizes.{IsBoundedClass}
use Rattle.cool_syntax.specs.Grammar.{IsUnexpected}
use Rattle.cool_syntax.specs.TokenFacts.{IsPlaced, AreWithinLimits}
use Rattle.cool_syntax.specs.TokenFacts as tokens
use Rattle.cool_syntax.specs.TreesWithinLimits.{AreClassesWithin}
use Rattle.cool_syntax.specs.Weights.{classes_weight}
use Rattle.cool_lexer.specs.declared.lexer.Lexed.{Lexed}
use Rattle.cool_faults.specs.declared.fault.Fault.{Fault}
use Rattle.cool_faults.specs.declared.fault.Fault.TheVariants.{Lex, Syntax, Class as OfClasses, Typing}
use Rattle.cool_faults.specs.Files.{total}
use Rattle.cool_faults.specs.Phases as phase
use Rattle.cool_faults.specs.Phases.{AreFound, IsLexed, IsParsed, IsSyntactic}
use Rattle.cool_faults.specs.Verdicts.{IsTree, AreTrees, SyntaxFaults, end_of}
use Rattle.cool_faults.specs.Verdicts as verdict
use Rattle.cool_faults.proofs.FindingsInARow.{AllFound}
use Rattle.cool_faults.proofs.LexicalFaults.{at_place, one_before}
use Rattle.cool_faults.proofs.OrderOfFaults.{InRisingFiles, rising_lower}

-- a file's bytes are a tree within the limits
pub record IsWhole (file : ℕ) (bytes : List ℕ) (tree : FileTree) : Type 0 where
  pub is_tree : IsTree file bytes tree
  pub limits : (files : ℕ) → file < files → AreClassesWithin files tree.classes
  pub weight : classes_weight tree.classes ≤ length bytes
  pub bounded : AllByRecursion IsBoundedClass tree.classes

-- the parser's result for the lexer's result
pub whole_of : (file : ℕ) (bytes : List ℕ) (l : Lexed) (t : FileTree) → IsLexed file bytes l → IsParsed file l t → IsWhole file bytes t
whole_of file bytes l t h g =
    record {
      is_tree = record {
        number = g.number;
        tokens = l.tokens.items;
        lexes = h.lexes;
        parses = g.whole;
      };
      limits = λ files less. g.limits files (h.limits files less);
      weight = omega (arith, g.weight, h.weight);
      bounded = g.bounded h.lexes.runs;
    }

-- the same file by file
pub wholes_of : (i : ℕ) (files : List (List ℕ)) (ls : List Lexed) (ts : List FileTree) → AllFound IsLexed i files ls → AllFound IsParsed i ls ts → AllFound IsWhole i files ts
wholes_of i [] [] [] h g = tt
wholes_of i [] [] (t ∷ ts) h g = absurd g
wholes_of i [] (l ∷ ls) ts h g = absurd h
wholes_of i (bytes ∷ files) [] ts h g = absurd h
wholes_of i (bytes ∷ files) (l ∷ ls) [] h g = absurd g
wholes_of i (bytes ∷ files) (l ∷ ls) (t ∷ ts) h g = (whole_of i bytes l t h.0 g.0, wholes_of (i + 1) files ls ts h.1 g.1)

-- the files are these trees
pub are_trees : (i : ℕ) (files : List (List ℕ)) (ts : List FileTree) → AllFound IsWhole i files ts → AreTrees i files ts
are_trees i [] [] h = tt
are_trees i [] (t ∷ ts) h = absurd h
are_trees i (bytes ∷ files) [] h = absurd h
are_trees i (bytes ∷ files) (t ∷ ts) h = (h.0.is_tree, are_trees (i + 1) files ts h.1)

-- a file's tokens are few enough for the parser
pub tokens_few : (i : ℕ) (files : List (List ℕ)) (ls : List Lexed) → AllFound IsLexed i files ls → total files ≤ MOST_SOURCE_BYTES
    → AllByRecursion (λ l. length l.tokens.items ≤ MOST_SOURCE_BYTES) ls
tokens_few i [] [] h small = tt
tokens_few i [] (l ∷ ls) h small = absurd h
tokens_few i (bytes ∷ files) [] h small = absurd h
tokens_few i (bytes ∷ files) (l ∷ ls) h small =
    let light : total files ≤ MOST_SOURCE_BYTES = omega arith in
    let few : length l.tokens.items ≤ MOST_SOURCE_BYTES = omega (arith, h.0.few) in
    (few, tokens_few (i + 1) files ls h.1 light)

-- there are as many results as inputs
pub as_many : {I T : Type 0} (IsGood : ℕ → I → T → Type 0) (i : ℕ) (xs : List I) (ts : List T) → AllFound IsGood i xs ts → length ts ≡ length xs
as_many IsGood i [] [] h = refl
as_many IsGood i [] (t ∷ ts) h = absurd h
as_many IsGood i (x ∷ xs) [] h = absurd h
as_many IsGood i (x ∷ xs) (t ∷ ts) h = omega (arith, as_many IsGood (i + 1) xs ts h.1)

-- the findings are the syntax faults
pub syntax_faults : {i : ℕ} {ls : List Lexed} {ts : List FileTree} {fs : List Fault} → AreFound IsParsed IsSyntactic i ls ts fs → (files : List (List ℕ)) → AllFound IsLexed i files ls
    → SyntaxFaults i files fs
syntax_faults (phase.none i) [] h = verdict.none i
syntax_faults (phase.none i) (bytes ∷ files) h = absurd h
syntax_faults (phase.good i l ls t ts fs g rest) [] h = absurd h
syntax_faults (phase.good i l ls t ts fs g rest) (bytes ∷ files) h =
    verdict.good i bytes files fs t (whole_of i bytes l t h.0 g).is_tree (syntax_faults rest files h.1)
syntax_faults (phase.bad i l ls f ts fs b rest) [] h = absurd h
syntax_faults (phase.bad i l ls (Lex f) ts fs b rest) (bytes ∷ files) h = absurd b
syntax_faults (phase.bad i l ls (Syntax f) ts fs b rest) (bytes ∷ files) h =
    let unexpected : IsUnexpected l.tokens.items (end_of i bytes) f.at = subst (λ end. IsUnexpected l.tokens.items end f.at) h.0.end b in
    verdict.bad i bytes files fs l.tokens.items f h.0.lexes unexpected (syntax_faults rest files h.1)
syntax_faults (phase.bad i l ls (OfClasses f) ts fs b rest) (bytes ∷ files) h = absurd b
syntax_faults (phase.bad i l ls (Typing f) ts fs b rest) (bytes ∷ files) h = absurd b

-- a token's place stands in the file
token_placed : (count file low : ℕ) (before : List Token) (t : Token) (after : List Token) → tokens.AreRising file low (before ++ t ∷ after) → AreWithinLimits count (before ++ t ∷ after)
    → (t.at.file ≡ file) × IsPlaced count t.at
token_placed count file low [] t after rising limits = (rising.0, limits.0.0)
token_placed count file low (b ∷ before) t after rising limits = token_placed count file (b.at.byte + 1) before t after rising.2 limits.1

-- a syntax fault stands in its file: at a token, or at the end
syntactic_placed : (count file : ℕ) (bytes : List ℕ) (l : Lexed) (p : Place) → file < count → length bytes ≤ MOST_SOURCE_BYTES → IsLexed file bytes l → IsUnexpected l.tokens.items l.end p
    → (p.file ≡ file) × IsPlaced count p
syntactic_placed count file bytes l p less small h (inl (before, t, after, same, place, begins, stops)) =
    subst (λ (q : Place). (q.file ≡ file) × IsPlaced count q) (sym place)
    (token_placed count file 0 before t after (subst (tokens.AreRising file 0) same h.rising) (subst (AreWithinLimits count) same (h.limits count less)))
syntactic_placed count file bytes l p less small h (inr (place, begins, stops)) =
    subst (λ (q : Place). (q.file ≡ file) × IsPlaced count q) (sym place) (at_place count file bytes (length bytes) l.end less small h.end)

-- they stand in rising files
pub syntactic_rising : (count : ℕ) {i : ℕ} {ls : List Lexed} {ts : List FileTree} {fs : List Fault} → AreFound IsParsed IsSyntactic i ls ts fs → (files : List (List ℕ)) → AllFound IsLexed i files ls
    → i + length files ≤ count → total files ≤ MOST_SOURCE_BYTES → InRisingFiles count i fs
syntactic_rising count (phase.none i) files h few small = tt
syntactic_rising count (phase.good i l ls t ts fs g rest) [] h few small = absurd h
syntactic_rising count (phase.good i l ls t ts fs g rest) (bytes ∷ files) h few small =
    let less : (i + 1) + length files ≤ count = omega arith in
    let light : total files ≤ MOST_SOURCE_BYTES = omega arith in
    let lower : i ≤ i + 1 = omega arith in
    rising_lower count i (i + 1) fs lower (syntactic_rising count rest files h.1 less light)
syntactic_rising count (phase.bad i l ls f ts fs b rest) [] h few small = absurd h
syntactic_rising count (phase.bad i l ls (Lex f) ts fs b rest) (bytes ∷ files) h few small = absurd b
syntactic_rising count (phase.bad i l ls (Syntax f) ts fs b rest) (bytes ∷ files) h few small =
    let less : (i + 1) + length files ≤ count = omega arith in
    let light : total files ≤ MOST_SOURCE_BYTES = omega arith in
    let inside : i < count = omega arith in
    let short : length bytes ≤ MOST_SOURCE_BYTES = omega arith in
    one_before count i (Syntax f) fs (syntactic_placed count i bytes l f.at inside short h.0 b) (syntactic_rising count rest files h.1 less light)
syntactic_rising count (phase.bad i l ls (OfClasses f) ts fs b rest) (bytes ∷ files) h few small = absurd b
syntactic_rising count (phase.bad i l ls (Typing f) ts fs b rest) (bytes ∷ files) h few small = absurd b
