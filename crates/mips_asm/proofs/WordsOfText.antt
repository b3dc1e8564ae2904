-- The text segment has as many machine words as `words_in` counts for its lines, and three more if the assembler adds `__start`. Lines without an error fit
-- into the segment.
use Rattle.std.proofs.Common.{◌≡◌, refl, ◌∙◌, ap, ℕ, suc, ◌+◌, ◌*◌, ◌≤◌, ◌&&◌, not, is_some, List, [], ◌∷◌, ◌++◌, length, map, Bool, true, false, Option, Some, None, if◌then◌else◌, arith, lit≤, subst}
use Rattle.std.proofs.lemmas.List.{length-append, length-map}
use Rattle.mips_isa.specs.declared.place.Segment.{Segment}
use Rattle.mips_isa.specs.declared.place.Segment.TheVariants.{Text, Data}
use Rattle.mips_isa.specs.declared.asm_fault.AsmKind.{AsmKind}
use Rattle.mips_isa.specs.declared.asm_fault.AsmFault.{AsmFault}
use Rattle.mips_isa.specs.declared.address_map.TheConstants.{TEXT_START}
use Rattle.mips_isa.specs.Words.{word_of}
use Rattle.mips_isa.specs.Lines.{Name, Line}
use Rattle.mips_isa.specs.Assembly.{Need, Nothing, Words, Item, Switch, Padding, need, Position, start_position, padded, after_need, after_line, place_of, in_text, start_name, main_name, added_lines, completed, instructions, text_from, defining_fault, fault_or, first_pass, second_pass, first_or, fault_of}
use Rattle.mips_asm.specs.Passes.{Fits}
use Rattle.mips_asm.specs.TextWords.{words_needed, words_in}
use Rattle.mips_asm.proofs.Assembled.{length_of_instructions}
use Rattle.mips_asm.proofs.LinePlaces.{fine_here, fine_fits}
use Rattle.lists.proofs.Numbers.{nothing_more}

padded_words : (segment : Segment) (unit : ℕ) (p : Position) → (padded segment unit p).words ≡ p.words + 0
padded_words Text unit p = nothing_more p.words
padded_words Data unit p = nothing_more p.words

-- a need adds its words to a position
pub words_after : (n : Need) (p : Position) → (after_need n p).words ≡ p.words + words_needed n
words_after Nothing p = nothing_more p.words
words_after (Words n) p = refl
words_after (Item unit size) p = nothing_more p.words
words_after (Switch segment) p = nothing_more p.words
words_after (Padding unit) p = padded_words p.segment unit p

-- a text has the words of its lines
pub length_of_text : (address : Name → ℕ) (p : Position) (lines : List Line) → length (text_from address p lines) ≡ words_in lines
length_of_text address p [] = refl
length_of_text address p (line ∷ rest) =
    let list = instructions address (TEXT_START + 4 * p.words) line.statement in
    let more = text_from address (after_line line p) rest in
    length-append (map word_of list) more
    ∙ ap (λ (n : ℕ). n + length more) (length-map list word_of ∙ length_of_instructions address (TEXT_START + 4 * p.words) line.statement)
    ∙ ap (λ (n : ℕ). words_needed (need line.statement) + n) (length_of_text address (after_line line p) rest)

sum_with_three : (m n k : ℕ) → n ≡ k + 3 → m + n ≡ m + k + 3
sum_with_three m n k h = omega arith

-- the lines that complete a program are three words
pub words_with_added : (lines : List Line) → words_in (lines ++ added_lines) ≡ words_in lines + 3
words_with_added [] = refl
words_with_added (line ∷ rest) =
    sum_with_three (words_needed (need line.statement)) (words_in (rest ++ added_lines)) (words_in rest) (words_with_added rest)

-- lines without a fault of the first pass fit into the text
words_fit : (seen : List Name) (p : Position) (number : ℕ) (lines : List Line)
    → Fits p.words p.bytes → first_pass seen p number lines ≡ None → p.words + words_in lines ≤ 66060288
words_fit seen p number [] fits fine = subst (λ (n : ℕ). n ≤ 66060288) (nothing_more p.words) fits.words_fit
words_fit seen p number (line ∷ rest) fits fine =
    let q : Position = after_line line p in
    let both = fine_here number (defining_fault seen p line) (first_pass (seen ++ line.labels) q (suc number) rest) fine in
    later p.words q.words (words_needed (need line.statement)) (words_in rest) (words_after (need line.statement) p)
    (words_fit (seen ++ line.labels) q (suc number) rest (fine_fits seen p line both.0) both.1)
  where
    later : (a b m n : ℕ) → b ≡ a + m → b + n ≤ 66060288 → a + (m + n) ≤ 66060288
    later a b m n e h = omega arith

-- lines have no fault of the first pass where they have none with others behind them
fine_front : (seen : List Name) (p : Position) (number : ℕ) (lines more : List Line)
    → first_pass seen p number (lines ++ more) ≡ None → first_pass seen p number lines ≡ None
fine_front seen p number [] more fine = refl
fine_front seen p number (line ∷ rest) more fine =
    let q : Position = after_line line p in
    let both = fine_here number (defining_fault seen p line) (first_pass (seen ++ line.labels) q (suc number) (rest ++ more)) fine in
    ap (λ (o : Option AsmKind). fault_or number o (first_pass (seen ++ line.labels) q (suc number) rest)) both.0
    ∙ fine_front (seen ++ line.labels) q (suc number) rest more both.1

first_none : (a b : Option AsmFault) → first_or a b ≡ None → a ≡ None
first_none None b h = refl
first_none (Some fault) b h = h

-- lines with an image have no fault of the first pass
pub fine_lines : (lines : List Line) → fault_of lines ≡ None → first_pass [] start_position 1 lines ≡ None
fine_lines lines h =
    by (not (is_some (place_of lines start_name)) && in_text (place_of lines main_name))
    (first_none (first_pass [] start_position 1 (completed lines)) (second_pass (place_of (completed lines)) start_position 1 (completed lines)) h)
  where
    by : (b : Bool) → first_pass [] start_position 1 (if b then lines ++ added_lines else lines) ≡ None → first_pass [] start_position 1 lines ≡ None
    by true fine = fine_front [] start_position 1 lines added_lines fine
    by false fine = fine

-- lines with an image fit into the text
pub lines_fit : (lines : List Line) → fault_of lines ≡ None → words_in lines ≤ 66060288
lines_fit lines h =
    let fits : 0 + words_in lines ≤ 66060288 =
    words_fit [] start_position 1 lines (record { words_fit = lit≤ tt; bytes_fit = lit≤ tt }) (fine_lines lines h) in
    omega arith
