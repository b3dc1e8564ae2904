-- The instructions of an assembly program without errors are in the text segment of its assembled image, each at the address that the assembler gives it.
use Rattle.std.proofs.Common.{◌≡◌, ℕ, suc, ◌+◌, ◌-◌, ◌*◌, ◌/◌, ◌<◌, List, [], ◌∷◌, ◌++◌, length, map, get_or, refl, sym, ap, ◌∙◌, subst, arith, Bool, true, false, true≢false, Option, Some, None, append_assoc, length-append, lit<}
use Rattle.std.specs.Prelude.{if◌then◌else◌, ◌||◌, ◌&&◌, not, bytes_eq}
use Rattle.std.specs.List.{AllByRecursion}
use Rattle.std.proofs.Math.Seq.{get_or-append_seam}
use Rattle.std.proofs.lemmas.List.{length-map}
use Rattle.std.proofs.lemmas.Slice.Eq.{bytes_eq-Decides}
use Rattle.mips_isa.specs.declared.instr.Instr.{Instr}
use Rattle.mips_isa.specs.declared.asm_fault.AsmKind.TheVariants.{A6, A7}
use Rattle.mips_isa.specs.declared.asm_fault.AsmFault.{AsmFault}
use Rattle.mips_isa.specs.declared.place.Place.{Place}
use Rattle.mips_isa.specs.declared.place.Segment.{Segment}
use Rattle.mips_isa.specs.declared.place.Segment.TheVariants.{Text, Data}
use Rattle.mips_isa.specs.Words.{word_of, InRange}
use Rattle.mips_isa.specs.Decoding.{decoded}
use Rattle.mips_isa.specs.Machine.{word_of_text}
use Rattle.mips_isa.specs.declared.address_map.TheConstants.{TEXT_START}
use Rattle.mips_isa.specs.Lines.{Name, Line, AreInRange, IsInRange, AsmInstr, ToTwo, ToOne, ToJump, La, B, BranchZero, BranchOrder, Statement, Instruction}
use Rattle.mips_isa.specs.Assembly.{Need, Nothing, Words, Item, Switch, Padding, need, Position, start_position, after_need, after_line, first_pass, second_pass, first_or, using_fault, has, place_from, place_in, place_of, address_or_zero, in_text, instructions, text_from, any_without_place, used, instruction_reaches, reaches}
use Rattle.mips_isa.proofs.WordsAreDecoded.{decoded-word_of}
use Rattle.mips_asm.specs.Parts.{IsWordPlace, statement_fault, target_address, target_in, found}
use Rattle.mips_asm.proofs.Targets.{instruction_in_range, expansion_of_target}
use Rattle.mips_asm.proofs.Assembled.{using_is, length_of_instructions}
use Rattle.mips_asm.proofs.AllAssembled.{word_place}
use Rattle.cool_runtime.specs.Reaches.{World}
use Rattle.cool_runtime.specs.Standing.{InstructionsAt, IsTarget, InstructionHolds, Holds, PlacedAt, LineAt, HasLines, size}
use Rattle.cool_runtime.specs.Images.{IsImageOf, IsTextNeed, AreText}
use Rattle.cool_runtime.proofs.PlacesOfLabels.{placed_there, below_end, InTextBelow, address_fits}
use Rattle.mips_asm.specs.TextWords.{words_needed}
use Rattle.mips_asm.specs.Passes.{after_lines}
use Rattle.mips_asm.proofs.LinePlaces.{fine_here}
use Rattle.mips_asm.proofs.FirstPasses.{after_both}
use Rattle.mips_asm.proofs.WordsOfText.{words_after}

-- the words of a text

words_at : (w : World) (before after : List ℕ) (list : List Instr) (pc : ℕ) → w.text ≡ before ++ (map word_of list ++ after) → pc ≡ TEXT_START + 4 * length before
    → w.segments.text_end ≡ TEXT_START + 4 * length w.text → length w.text < 66060288 → AllByRecursion InRange list → InstructionsAt w pc list
words_at w before after [] pc text at end room ranges = tt
words_at w before after (i ∷ list) pc text at end room ranges =
    let rest = map word_of list ++ after in
    let long : length w.text ≡ length before + suc (length rest) = ap length text ∙ length-append before (word_of i ∷ rest) in
    let index : (pc - TEXT_START) / 4 ≡ length before = omega arith in
    let word : word_of_text w.text pc ≡ word_of i = ap (λ k. get_or w.text k 0) index ∙ ap (λ l. get_or l (length before) 0) text ∙ get_or-append_seam before (word_of i) rest 0 in
    let next : w.text ≡ (before ++ word_of i ∷ []) ++ rest = text ∙ sym (append_assoc before (word_of i ∷ []) rest) in
    let longer : length (before ++ word_of i ∷ []) ≡ length before + 1 = length-append before (word_of i ∷ []) in (
      record { even = omega arith; from = omega arith; to = omega arith; low = omega arith; is = ap decoded word ∙ decoded-word_of i ranges.0 },
      words_at w (before ++ word_of i ∷ []) after list (pc + 4) next (omega arith) end room ranges.1,
    )

-- the text of lines, in parts

text_split : (address : Name → ℕ) (p : Position) (front back : List Line) → text_from address p (front ++ back) ≡ text_from address p front ++ text_from address (after_lines p front) back
text_split address p [] back = refl
text_split address p (line ∷ front) back =
    let words = map word_of (instructions address (TEXT_START + 4 * p.words) line.statement) in
    ap (λ l. words ++ l) (text_split address (after_line line p) front back) ∙ sym (append_assoc words (text_from address (after_line line p) front) _)

pub text_length : (address : Name → ℕ) (p : Position) (front : List Line) → p.words + length (text_from address p front) ≡ (after_lines p front).words
text_length address p [] = omega arith
text_length address p (line ∷ front) =
    let list = instructions address (TEXT_START + 4 * p.words) line.statement in
    let more : text_from address p (line ∷ front) ≡ map word_of list ++ text_from address (after_line line p) front = refl in
    let a : length (text_from address p (line ∷ front)) ≡ length (map word_of list) + length (text_from address (after_line line p) front) = length-append (map word_of list) _ in
    let b : length (map word_of list) ≡ words_needed (need line.statement) = length-map list word_of ∙ length_of_instructions address (TEXT_START + 4 * p.words) line.statement in
    let c : (after_line line p).words ≡ p.words + words_needed (need line.statement) = words_after (need line.statement) p in
    let d : (after_line line p).words + length (text_from address (after_line line p) front) ≡ (after_lines p (line ∷ front)).words = text_length address (after_line line p) front in
    omega arith

-- no line of lines without a fault has one

pub first_none : (o other : Option AsmFault) → first_or o other ≡ None → (o ≡ None) × (other ≡ None)
first_none None other h = (refl, h)
first_none (Some fault) other h = cc

using_none : (place : Name → Option Place) (p : Position) (number : ℕ) (front : List Line) (line : Line) (rest : List Line)
    → second_pass place p number (front ++ line ∷ rest) ≡ None → using_fault place (after_lines p front) line ≡ None
using_none place p number [] line rest fine = (fine_here number (using_fault place p line) _ fine).0
using_none place p number (first ∷ front) line rest fine =
    using_none place (after_line first p) (suc number) front line rest (fine_here number (using_fault place p first) _ fine).1

reaches_of : (a b : Bool) → (if a then Some A6 else (if not b then Some A7 else None)) ≡ None → b ≡ true
reaches_of true b h = cc
reaches_of false true h = refl
reaches_of false false h = cc

first_of : (a b : Bool) → (a && b) ≡ true → a ≡ true
first_of true b h = refl
first_of false b h = cc

-- a target in text
target_of : (w : World) (l : Name) (o : Option Place) (words : ℕ) → w.place l ≡ address_or_zero o → IsWordPlace o → InTextBelow words o → TEXT_START + 4 * words < 268435456 → in_text o ≡ true → IsTarget w l
target_of w l None words at even below room there = absurd (true≢false (sym there))
target_of w l (Some place) words at even below room there =
    let a = even there in
    let b = below there in
    record { even = omega arith; low = omega arith }

-- the names of an instruction without a fault can be held
instruction_held : (w : World) (place : Name → Option Place) (words at : ℕ) (i : AsmInstr) → ((l : Name) → w.place l ≡ address_or_zero (place l)) → ((l : Name) → IsWordPlace (place l)) → ((l : Name) → InTextBelow words (place l))
    → TEXT_START + 4 * words < 268435456 → ((l : Name) → address_or_zero (place l) < 4294967296) → instruction_reaches place at i ≡ true → InstructionHolds w i
instruction_held w place words at (ToTwo op rs rt l) is even below room fits there = target_of w l (place l) words (is l) (even l) (below l) room (first_of (in_text (place l)) _ there)
instruction_held w place words at (ToOne op rs l) is even below room fits there = target_of w l (place l) words (is l) (even l) (below l) room (first_of (in_text (place l)) _ there)
instruction_held w place words at (ToJump op l) is even below room fits there = target_of w l (place l) words (is l) (even l) (below l) room (first_of (in_text (place l)) _ there)
instruction_held w place words at (La rd l) is even below room fits there = subst (λ a. a < 4294967296) (sym (is l)) (fits l)
instruction_held w place words at (B l) is even below room fits there = target_of w l (place l) words (is l) (even l) (below l) room (first_of (in_text (place l)) _ there)
instruction_held w place words at (BranchZero op rs l) is even below room fits there = target_of w l (place l) words (is l) (even l) (below l) room (first_of (in_text (place l)) _ there)
instruction_held w place words at (BranchOrder op rs rt l) is even below room fits there = target_of w l (place l) words (is l) (even l) (below l) room (first_of (in_text (place l)) _ there)
instruction_held w place words at _ is even below room fits there = tt

-- and so those of a statement
held : (w : World) (place : Name → Option Place) (words at : ℕ) (s : Statement) → ((l : Name) → w.place l ≡ address_or_zero (place l)) → ((l : Name) → IsWordPlace (place l)) → ((l : Name) → InTextBelow words (place l))
    → TEXT_START + 4 * words < 268435456 → ((l : Name) → address_or_zero (place l) < 4294967296) → reaches place at s ≡ true → Holds w s
held w place words at (Instruction i) is even below room fits there = instruction_held w place words at i is even below room fits there
held w place words at _ is even below room fits there = tt

-- the address of a target has 32 bits

found_fits : (o : Option Place) → address_or_zero o < 4294967296 → target_address (found o) < 4294967296
found_fits None h = h
found_fits (Some place) h = h

target_fits : (place : Name → Option Place) (i : AsmInstr) → ((l : Name) → address_or_zero (place l) < 4294967296) → target_address (target_in place i) < 4294967296
target_fits place (ToTwo op rs rt l) fits = found_fits (place l) (fits l)
target_fits place (ToOne op rs l) fits = found_fits (place l) (fits l)
target_fits place (ToJump op l) fits = found_fits (place l) (fits l)
target_fits place (La rd l) fits = found_fits (place l) (fits l)
target_fits place (B l) fits = found_fits (place l) (fits l)
target_fits place (BranchZero op rs l) fits = found_fits (place l) (fits l)
target_fits place (BranchOrder op rs rt l) fits = found_fits (place l) (fits l)
target_fits place _ fits = lit< tt

-- the instructions of a statement without a fault are in range
in_range : (place : Name → Option Place) (words : ℕ) (s : Statement) → IsInRange s → statement_fault place words s ≡ None → ((l : Name) → address_or_zero (place l) < 4294967296)
    → AllByRecursion InRange (instructions (λ name. address_or_zero (place name)) (TEXT_START + 4 * words) s)
in_range place words (Instruction i) range faultless fits =
    let at : ℕ = TEXT_START + 4 * words in
    subst (AllByRecursion InRange) (sym (expansion_of_target place at i)) (instruction_in_range place at i range faultless (target_fits place i fits))
in_range place words _ range faultless fits = tt

ranges_at : (front : List Line) (line : Line) (rest : List Line) → AreInRange (front ++ line ∷ rest) → IsInRange line.statement
ranges_at [] line rest ranges = ranges.0
ranges_at (first ∷ front) line rest ranges = ranges_at front line rest ranges.1

pub placed_all : (w : World) (pc : ℕ) (labels : List Name) → ((l : Name) → has labels l ≡ true → w.place l ≡ pc) → PlacedAt w pc labels
placed_all w pc [] there = tt
placed_all w pc (l ∷ rest) there = (
  there l (ap (λ t. t || has rest l) ((bytes_eq-Decides l l).1 refl)),
  placed_all w pc rest (λ k h. there k (or_true (bytes_eq k l) (has rest k) h)),
)
  where
    or_true : (a b : Bool) → b ≡ true → (a || b) ≡ true
    or_true true b h = refl
    or_true false b h = h

text_goes_on : (n : Need) (p : Position) → IsTextNeed n → p.segment ≡ Text → (after_need n p).segment ≡ Text
text_goes_on Nothing p need text = text
text_goes_on (Words n) p need text = text
text_goes_on (Item unit size) p need text = absurd need
text_goes_on (Switch segment) p need text = absurd need
text_goes_on (Padding unit) p need text = absurd need

place_in_text : (g : Segment) (p : Position) (lines : List Line) → g ≡ Text → address_or_zero (Some (place_in g p lines)) ≡ TEXT_START + 4 * p.words
place_in_text Text p lines text = refl
place_in_text Data p lines text = cc

module _ (w : World) (all : List Line) (image : IsImageOf w all) where
  place : Name → Option Place
  place = place_of all

  first : first_pass [] start_position 1 all ≡ None
  first = (first_none (first_pass [] start_position 1 all) (second_pass (place_of all) start_position 1 all) image.faultless).0

  second : second_pass (place_of all) start_position 1 all ≡ None
  second = (first_none (first_pass [] start_position 1 all) (second_pass (place_of all) start_position 1 all) image.faultless).1

  place_at : (l : Name) → w.place l ≡ address_or_zero (place_of all l)
  place_at l = ap (λ f. f l) image.place_is

  -- the words of all lines
  words_of_all : (after_lines start_position all).words ≡ length w.text
  words_of_all =
      let h = text_length (λ name. address_or_zero (place_of all name)) start_position all in
      let e : length w.text ≡ length (text_from (λ name. address_or_zero (place_of all name)) start_position all) = ap length image.text_is in
      omega arith

  line_at : (front : List Line) (line : Line) (rest : List Line) → all ≡ front ++ line ∷ rest → (after_lines start_position front).segment ≡ Text
      → LineAt w (TEXT_START + 4 * (after_lines start_position front).words) line
  line_at front line rest split text =
      let address : Name → ℕ = λ name. address_or_zero (place_of all name) in
      let q : Position = after_lines start_position front in
      let pc : ℕ = TEXT_START + 4 * q.words in
      let s : Statement = line.statement in
      let fine : first_pass [] start_position 1 (front ++ line ∷ rest) ≡ None = ap (first_pass [] start_position 1) (sym split) ∙ first in
      let fits : (l : Name) → address_or_zero (place_of all l) < 4294967296 = λ l. address_fits [] start_position 1 all l (record { words_fit = omega arith; bytes_fit = omega arith }) first in
      let unused : using_fault (place_of all) q line ≡ None = using_none (place_of all) start_position 1 front line rest (ap (second_pass (place_of all) start_position 1) (sym split) ∙ second) in
      let faultless : statement_fault (place_of all) q.words s ≡ None = sym (using_is (place_of all) q.words s) ∙ unused in
      let range : IsInRange s = ranges_at front line rest (subst AreInRange split image.ranges) in
      let ranges : AllByRecursion InRange (instructions address pc s) = in_range (place_of all) q.words s range faultless fits in
      let before : List ℕ = text_from address start_position front in
      let after : List ℕ = text_from address (after_line line q) rest in
      let words : w.text ≡ before ++ (map word_of (instructions address pc s) ++ after) = image.text_is ∙ ap (text_from address start_position) split ∙ text_split address start_position front (line ∷ rest) in
      let long : length before ≡ q.words = (let h = text_length address start_position front in omega arith) in
      let there : InstructionsAt w pc (instructions address pc s) = words_at w before after (instructions address pc s) pc words (omega arith) image.end_is image.room ranges in
      record {
        labels = placed_all w pc line.labels (λ l h. place_at l ∙ ap (λ lines. address_or_zero (place_from start_position lines l)) split ∙ ap address_or_zero (placed_there [] start_position 1 front line rest l fine h) ∙ place_in_text q.segment q (line ∷ rest) text);
        words = subst (λ f. InstructionsAt w pc (instructions f pc s)) (sym image.place_is) there;
        names = held w (place_of all) (after_lines start_position all).words pc s place_at (λ l. word_place (place_of all) all l refl) (below_end start_position all)
            (let e = words_of_all in let r = image.room in omega arith) fits (reaches_of (any_without_place (place_of all) (used s)) (reaches (place_of all) pc s) unused);
      }

  -- lines of text stand at their place
  pub has_lines : (front part back : List Line) → all ≡ front ++ (part ++ back) → AreText part → (after_lines start_position front).segment ≡ Text
      → HasLines w (TEXT_START + 4 * (after_lines start_position front).words) part
  has_lines front [] back split are text = tt
  has_lines front (line ∷ part) back split are text =
      let q : Position = after_lines start_position front in
      let next : after_lines start_position (front ++ line ∷ []) ≡ after_line line q = after_both start_position front (line ∷ []) in
      let grown : (after_line line q).words ≡ q.words + words_needed (need line.statement) = words_after (need line.statement) q in
      let at : TEXT_START + 4 * (after_lines start_position (front ++ line ∷ [])).words ≡ TEXT_START + 4 * q.words + size line =
      ap (λ (p : Position). TEXT_START + 4 * p.words) next ∙ omega arith in (
        line_at front line (part ++ back) split text,
        subst (λ pc. HasLines w pc part) at
            (has_lines (front ++ line ∷ []) part back (split ∙ sym (append_assoc front (line ∷ []) (part ++ back))) are.1
            (ap (λ (p : Position). p.segment) next ∙ text_goes_on (need line.statement) q are.0 text)),
      )
