-- The errors that the lexing phase finds are the first lexical errors of the files, in the order of the files.
use Rattle.std.proofs.Common.{◌≡◌, inl, inr, ℕ, ◌+◌, ◌<◌, ◌≤◌, ◌==◌, List, [], ◌∷◌, length, take, get_or, zero, suc, ap, arith, min}
use Rattle.std.specs.List.{count_by}
use Rattle.std.specs.Global.{Vec}
use Rattle.std.proofs.lemmas.List.{length-take}
use Rattle.std.proofs.lemmas.List.Sums.{count_by-le-length}
use Rattle.cool_syntax.specs.declared.TheConstants.{MOST_SOURCE_BYTES}
use Rattle.cool_syntax.specs.declared.place.Place.{Place}
use Rattle.cool_syntax.specs.declared.lexical.LexKind.{LexKind}
use Rattle.cool_syntax.specs.LexicalStructure.{LexFault as IsLexFault, Shows, Run, place_at, run_of, first_run, tokens_of}
use Rattle.cool_syntax.specs.TokenFacts.{IsPlaced}
use Rattle.cool_lexer.specs.declared.lexer.Lexed.{Lexed}
use Rattle.cool_faults.specs.declared.fault.Fault.{Fault}
use Rattle.cool_faults.specs.declared.fault.Fault.TheVariants.{Lex, Syntax, Class as OfClasses, Typing}
use Rattle.cool_faults.specs.Files.{bytes_of, total}
use Rattle.cool_faults.specs.Phases as phase
use Rattle.cool_faults.specs.Phases.{AreFound, IsLexed, IsLexical}
use Rattle.cool_faults.specs.Verdicts.{LexFaults}
use Rattle.cool_faults.specs.Verdicts as verdict
use Rattle.cool_faults.proofs.OrderOfFaults.{InRisingFiles, rising_lower}

-- a place of a file is on one of the lines that its bytes can make
pub line_bounded : (file : ℕ) (bytes : List ℕ) (k : ℕ) → (place_at file bytes k).line ≤ 1 + length bytes
line_bounded file bytes k =
    let few : count_by (λ b. b == 10) (take k bytes) ≤ length (take k bytes) = count_by-le-length (λ b. b == 10) (take k bytes) in
    let short : length (take k bytes) ≡ min k (length bytes) = length-take k bytes in
    omega (arith, few, short)

-- a place of a file, where the files of so many have few enough bytes
pub at_place : (count file : ℕ) (bytes : List ℕ) (k : ℕ) (at : Place) → file < count → length bytes ≤ MOST_SOURCE_BYTES → at ≡ place_at file bytes k → (at.file ≡ file) × IsPlaced count at
at_place count file bytes k at less small e =
    let same : at.file ≡ file = ap (λ (p : Place). p.file) e in
    let line : at.line ≡ (place_at file bytes k).line = ap (λ (p : Place). p.line) e in
    let low : (place_at file bytes k).line ≤ 1 + length bytes = line_bounded file bytes k in
    let inside : at.file < count = omega (arith, same) in
    let short : at.line ≤ MOST_SOURCE_BYTES + 1 = omega (arith, line, low) in
    (same, (inside, short))

-- a fault that shows stands at a place of the file
shows_placed : (count file : ℕ) (bytes : List ℕ) (at : ℕ) (left : List ℕ) (r : Run) (k : LexKind) (p : Place) → file < count → length bytes ≤ MOST_SOURCE_BYTES
    → Shows file bytes at left r k p → (p.file ≡ file) × IsPlaced count p
shows_placed count file bytes at left r k p less small (inl (offset, e, is)) = at_place count file bytes (at + offset) p less small is
shows_placed count file bytes at left r k p less small (inr (lexeme, size, item, full, kind, is)) = at_place count file bytes at p less small is

-- a lexical fault stands in its file
lexical_placed : (count file : ℕ) (bytes : List ℕ) (k : LexKind) (p : Place) → file < count → length bytes ≤ MOST_SOURCE_BYTES → IsLexFault file bytes k p → (p.file ≡ file) × IsPlaced count p
lexical_placed count file bytes k p less small h = shows_placed count file bytes h.at h.left (run_of first_run (tokens_of file bytes h.items)) k p less small h.shows

-- the findings are the lexical faults
pub lexical_faults : {i : ℕ} {files : List (List ℕ)} {ts : List Lexed} {fs : List Fault} → AreFound IsLexed IsLexical i files ts fs → LexFaults i files fs
lexical_faults (phase.none i) = verdict.none i
lexical_faults (phase.good i bytes files t ts fs g rest) = verdict.good i bytes files fs t.tokens.items g.lexes (lexical_faults rest)
lexical_faults (phase.bad i bytes files (Lex f) ts fs b rest) = verdict.bad i bytes files fs f b (lexical_faults rest)
lexical_faults (phase.bad i bytes files (Syntax f) ts fs b rest) = absurd b
lexical_faults (phase.bad i bytes files (OfClasses f) ts fs b rest) = absurd b
lexical_faults (phase.bad i bytes files (Typing f) ts fs b rest) = absurd b

-- one fault more, in a file before the others
pub one_before : (count i : ℕ) (f : Fault) (fs : List Fault) → ((verdict.place_of f).file ≡ i) × IsPlaced count (verdict.place_of f) → InRisingFiles count (i + 1) fs → InRisingFiles count i (f ∷ fs)
one_before count i f fs p h =
    let low : i ≤ (verdict.place_of f).file = omega (arith, p.0) in
    let next : (verdict.place_of f).file + 1 ≤ i + 1 = omega (arith, p.0) in
    (low, p.1, rising_lower count ((verdict.place_of f).file + 1) (i + 1) fs next h)

-- they stand in rising files
pub lexical_rising : (count : ℕ) {i : ℕ} {files : List (List ℕ)} {ts : List Lexed} {fs : List Fault} → i + length files ≤ count → total files ≤ MOST_SOURCE_BYTES → AreFound IsLexed IsLexical i files ts fs
    → InRisingFiles count i fs
lexical_rising count few small (phase.none i) = tt
lexical_rising count few small (phase.good i bytes files t ts fs g rest) =
    let less : (i + 1) + length files ≤ count = omega arith in
    let light : total files ≤ MOST_SOURCE_BYTES = omega arith in
    let lower : i ≤ i + 1 = omega arith in
    rising_lower count i (i + 1) fs lower (lexical_rising count less light rest)
lexical_rising count few small (phase.bad i bytes files (Lex f) ts fs b rest) =
    let less : (i + 1) + length files ≤ count = omega arith in
    let light : total files ≤ MOST_SOURCE_BYTES = omega arith in
    let inside : i < count = omega arith in
    let short : length bytes ≤ MOST_SOURCE_BYTES = omega arith in
    one_before count i (Lex f) fs (lexical_placed count i bytes f.kind f.at inside short b) (lexical_rising count less light rest)
lexical_rising count few small (phase.bad i bytes files (Syntax f) ts fs b rest) = absurd b
lexical_rising count few small (phase.bad i bytes files (OfClasses f) ts fs b rest) = absurd b
lexical_rising count few small (phase.bad i bytes files (Typing f) ts fs b rest) = absurd b

-- no file has more bytes than all together
pub file_small : (files : List (Vec ℕ)) (i : ℕ) (file : Vec ℕ) → i < length files → file ≡ get_or files i file → length file.items ≤ total (bytes_of files)
file_small [] i file h is = absurd (omega arith)
file_small (f ∷ fs) zero file h is =
    let same : length file.items ≡ length f.items = ap (λ (v : Vec ℕ). length v.items) is in
    omega (arith, same)
file_small (f ∷ fs) (suc i) file h is =
    let less : i < length fs = omega arith in
    omega (arith, file_small fs i file less is)
