-- The address that a label in the text segment has, and the end of this segment, after the assembler has added `__start` where it is missing, follow from the
-- program's own lines.
use Rattle.std.proofs.Common.{◌≡◌, refl, sym, ◌∙◌, ap, ℕ, ◌+◌, ◌*◌, ◌&&◌, ◌||◌, not, is_some, nat_lt, List, [], ◌∷◌, ◌++◌, length, Bool, true, false, Option, Some, None, if◌then◌else◌, arith}
use Rattle.std.specs.Prelude.{bytes_eq}
use Rattle.mips_isa.specs.declared.place.Place.{Place}
use Rattle.mips_isa.specs.declared.place.Segment.{Segment}
use Rattle.mips_isa.specs.declared.place.Segment.TheVariants.{Text, Data}
use Rattle.mips_isa.specs.declared.address_map.TheConstants.{TEXT_START}
use Rattle.mips_isa.specs.Lines.{Name, Line}
use Rattle.mips_isa.specs.Assembly.{need, Position, start_position, after_line, has, is_text, in_text, place_in, place_from, place_of, address_or_zero, start_name, main_name, added_lines, image_of_all}
use Rattle.mips_asm.specs.Completing.{segment_after_need, segment_of_name}
use Rattle.mips_asm.specs.TextWords.{words_needed, words_in, words_before}
use Rattle.mips_asm.specs.TextLabels.{address_before, address_or_start, text_end, text_label}
use Rattle.mips_asm.proofs.Completions.{after_segment}
use Rattle.mips_asm.proofs.WordsOfText.{words_after, length_of_text, words_with_added}

-- the address of a label in this segment, where it is one of text
abbrev pub address_in : Segment → ℕ → ℕ → Option ℕ
address_in segment end a = if is_text segment && nat_lt a end then Some a else None

-- the label that a name is, by the segment of its label
abbrev pub label_in : Option ℕ → ℕ → Name → ℕ → Option Segment → Option ℕ
label_in start end name a None = if bytes_eq name start_name then start else None
label_in start end name a (Some segment) = address_in segment end a

address_here : (segment : Segment) (p : Position) (lines : List Line) (end a : ℕ) → a ≡ TEXT_START + 4 * p.words
    → address_in segment end a ≡ address_before end (Some (place_in segment p lines))
address_here Text p lines end a h = ap (address_in Text end) h
address_here Data p lines end a h = refl

plain : (a w : ℕ) → a ≡ TEXT_START + 4 * (w + 0) → a ≡ TEXT_START + 4 * w
plain a w h = omega arith

moved : (a q w m n : ℕ) → q ≡ w + m → a ≡ TEXT_START + 4 * (w + (m + n)) → a ≡ TEXT_START + 4 * (q + n)
moved a q w m n f g = omega arith

-- the segment of a label, and the words before it, say where it is
pub label_by_segment : (start : Option ℕ) (end : ℕ) (name : Name) (p : Position) (lines : List Line) (a : ℕ)
    → a ≡ TEXT_START + 4 * (p.words + words_before lines name)
    → label_in start end name a (segment_of_name p.segment lines name) ≡ address_or_start start end name (place_from p lines name)
label_by_segment start end name p [] a h = refl
label_by_segment start end name p (line ∷ rest) a h = by (has line.labels name) (label_by_segment start end name (after_line line p) rest a) h
  where
    by : (b : Bool)
        → (a ≡ TEXT_START + 4 * ((after_line line p).words + words_before rest name)
        → label_in start end name a (segment_of_name (after_line line p).segment rest name)
        ≡ address_or_start start end name (place_from (after_line line p) rest name))
        → a ≡ TEXT_START + 4 * (p.words + (if b then 0 else words_needed (need line.statement) + words_before rest name))
        → label_in start end name a (if b then Some p.segment else segment_of_name (segment_after_need (need line.statement) p.segment) rest name)
        ≡ address_or_start start end name (if b then Some (place_in p.segment p (line ∷ rest)) else place_from (after_line line p) rest name)
    by true later e = address_here p.segment p (line ∷ rest) end a (plain a p.words e)
    by false later e =
        ap (λ (s : Segment). label_in start end name a (segment_of_name s rest name)) (sym (after_segment (need line.statement) p))
        ∙ later
        (moved a (after_line line p).words p.words (words_needed (need line.statement)) (words_before rest name) (words_after (need line.statement) p) e)

-- The labels of a completed program

-- the label of the lines that complete it
added_label : (name : Name) (end a : ℕ) (p : Position) → a ≡ TEXT_START + 4 * p.words → nat_lt a end ≡ true
    → address_before end (place_from p added_lines name) ≡ address_or_start (Some a) end name None
added_label name end a p h below = by (bytes_eq name start_name)
  where
    by : (b : Bool) → address_before end (if (b || false) then Some (place_in Text p []) else None) ≡ (if b then Some a else None)
    by true = ap (λ (x : ℕ). if nat_lt x end then Some x else None) (sym h) ∙ ap (λ (t : Bool). if t then Some a else None) below
    by false = refl

same_address : (segment : Segment) (end : ℕ) (p : Position) (lines more : List Line)
    → address_before end (Some (place_in segment p lines)) ≡ address_before end (Some (place_in segment p more))
same_address Text end p lines more = refl
same_address Data end p lines more = refl

-- completing adds `__start` to the labels of the text, and moves none
completed_label : (name : Name) (end a : ℕ) (p : Position) (lines : List Line) → a ≡ TEXT_START + 4 * (p.words + words_in lines) → nat_lt a end ≡ true
    → address_before end (place_from p (lines ++ added_lines) name) ≡ address_or_start (Some a) end name (place_from p lines name)
completed_label name end a p [] h below = added_label name end a p (plain a p.words h) below
completed_label name end a p (line ∷ rest) h below =
    either (has line.labels name) (place_in p.segment p (line ∷ (rest ++ added_lines))) (place_in p.segment p (line ∷ rest))
    (place_from (after_line line p) (rest ++ added_lines) name) (place_from (after_line line p) rest name)
    (same_address p.segment end p (line ∷ (rest ++ added_lines)) (line ∷ rest))
    (completed_label name end a (after_line line p) rest
    (moved a (after_line line p).words p.words (words_needed (need line.statement)) (words_in rest) (words_after (need line.statement) p) h) below)
  where
    either : (b : Bool) (x y : Place) (o u : Option Place) → address_before end (Some x) ≡ address_before end (Some y)
        → address_before end o ≡ address_or_start (Some a) end name u
        → address_before end (if b then Some x else o) ≡ address_or_start (Some a) end name (if b then Some y else u)
    either true x y o u e f = e
    either false x y o u e f = f

-- the label of a word of lines that are already completed
-- whether lines are to be completed
abbrev is_to_complete : List Line → Bool
is_to_complete lines = not (is_some (place_of lines start_name)) && in_text (place_of lines main_name)

end_of_all : (lines : List Line) (n : ℕ) → words_in lines ≡ n → length (image_of_all lines).text ≡ n
end_of_all lines n h = length_of_text (λ name. address_or_zero (place_of lines name)) start_position lines ∙ h

-- a text that is completed, whose own words end at an address, ends three words later
pub end_completed : (lines : List Line) (a end : ℕ) → is_to_complete lines ≡ true → a ≡ TEXT_START + 4 * words_in lines → end ≡ a + 12 → end ≡ text_end lines
end_completed lines a end b here behind =
    let all : List Line = lines ++ added_lines in
    let text : length (image_of_all all).text ≡ words_in lines + 3 = end_of_all all (words_in lines + 3) (words_with_added lines) in
    last_of (words_in lines) (length (image_of_all all).text) text here behind
    ∙ ap (λ (t : Bool). TEXT_START + 4 * length (image_of_all (if t then lines ++ added_lines else lines)).text) (sym b)
  where
    last_of : (w n : ℕ) → n ≡ w + 3 → a ≡ TEXT_START + 4 * w → end ≡ a + 12 → end ≡ TEXT_START + 4 * n
    last_of w n e f g = omega arith

-- and one that stands as it is ends there
pub end_alone : (lines : List Line) (a : ℕ) → is_to_complete lines ≡ false → a ≡ TEXT_START + 4 * words_in lines → a ≡ text_end lines
end_alone lines a b here =
    here ∙ ap (λ (n : ℕ). TEXT_START + 4 * n) (sym (end_of_all lines (words_in lines) refl))
    ∙ ap (λ (t : Bool). TEXT_START + 4 * length (image_of_all (if t then lines ++ added_lines else lines)).text) (sym b)

-- the labels of a text that is completed, whose own words end at an address
pub label_completed : (lines : List Line) (name : Name) (a end : ℕ) → is_to_complete lines ≡ true → a ≡ TEXT_START + 4 * words_in lines → end ≡ a + 12
    → address_or_start (Some a) end name (place_of lines name) ≡ text_label lines name
label_completed lines name a end b here behind =
    let below : nat_lt a end ≡ true = grind arith in
    let own : a ≡ TEXT_START + 4 * (0 + words_in lines) = omega arith in
    sym (completed_label name end a start_position lines own below)
    ∙ ap (λ (e : ℕ). address_before e (place_of (lines ++ added_lines) name)) (end_completed lines a end b here behind)
    ∙ ap (λ (t : Bool). address_before (text_end lines) (place_of (if t then lines ++ added_lines else lines) name)) (sym b)

no_start : (end : ℕ) (name : Name) (o : Option Place) → address_or_start None end name o ≡ address_before end o
no_start end name None = by (bytes_eq name start_name)
  where
    none : Option ℕ
    none = None

    by : (b : Bool) → (if b then none else None) ≡ none
    by true = refl
    by false = refl
no_start end name (Some place) = refl

-- the labels of a text that stands as it is
pub label_alone : (lines : List Line) (name : Name) (a : ℕ) → is_to_complete lines ≡ false → a ≡ TEXT_START + 4 * words_in lines
    → address_or_start None a name (place_of lines name) ≡ text_label lines name
label_alone lines name a b here =
    no_start a name (place_of lines name)
    ∙ ap (λ (e : ℕ). address_before e (place_of lines name)) (end_alone lines a b here)
    ∙ ap (λ (t : Bool). address_before (text_end lines) (place_of (if t then lines ++ added_lines else lines) name)) (sym b)
