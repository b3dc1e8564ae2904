-- The assembler never runs over the end of a segment: while a program's lines are assembled, each statement lies in its segment, if the lines are not larger
-- than the segments.
use Rattle.std.proofs.Common.{◌≡◌, ℕ, zero, suc, ◌+◌, ◌≤◌, List, [], ◌∷◌, refl, sym, ap, subst, arith, false, not, ◌&&◌}
use Rattle.std.specs.Prelude.{nat_lt}
use Rattle.std.proofs.lemmas.Bool.{or_from, le-ltb}
use Rattle.mips_isa.specs.declared.address_map.TheConstants.{MOST_DATA_BYTES}
use Rattle.mips_isa.specs.declared.place.Segment.{Segment}
use Rattle.mips_isa.specs.declared.place.Segment.TheVariants.{Text, Data}
use Rattle.mips_isa.specs.Lines as statements
use Rattle.mips_isa.specs.Lines.{Name, Word, Asciiz, Align, Statement, Empty, Instruction, Directive, Line}
use Rattle.mips_isa.specs.Assembly.{Need, Nothing, Words, Item, Switch, Padding, need, Position, start_position}
use Rattle.mips_isa.specs.Assembly.{up, padded, after_need, after_line, is_text, is_wrong, is_too_large}
use Rattle.cool_runtime.specs.Images.{IsTextNeed}
use Rattle.cool_emit.specs.SoundLines.{MOST_TEXT_WORDS, IsText, IsData, AreText, AreData, text_need, text_room, data_need, data_room, joined_lines}

-- The space that statements need

-- padding takes less than four bytes
abbrev pub IsSmall : ℕ → Type 0
IsSmall unit = (n : ℕ) → up unit n ≤ n + 4

-- an item, padding or nothing, that four bytes pay for
abbrev pub IsDataNeed : Need → Type 0
IsDataNeed Nothing = Unit {0}
IsDataNeed (Words n) = ⊥
IsDataNeed (Item unit size) = IsSmall unit
IsDataNeed (Switch segment) = ⊥
IsDataNeed (Padding unit) = IsSmall unit

-- the units of data are small

small_one : IsSmall 1
small_one n = omega arith

small_four : IsSmall 4
small_four n = omega arith

-- a statement of text takes words, or nothing
pub needs_text : (target known : Name → Type 0) (s : Statement) → IsText target known s → IsTextNeed (need s)
needs_text target known Empty h = tt
needs_text target known (Instruction i) h = tt
needs_text target known _ h = absurd h

-- a statement of data takes an item, padding or nothing
pub needs_data : (known : Name → Type 0) (s : Statement) → IsData known s → IsDataNeed (need s)
needs_data known Empty h = tt
needs_data known (statements.Data (Word items)) h = small_four
needs_data known (statements.Data (Asciiz bytes)) h = small_one
needs_data known (Directive (Align n)) h = subst (λ (m : ℕ). IsDataNeed (need (Directive (Align m)))) (sym h) small_four
needs_data known _ h = absurd h

-- Room

-- A position in a segment, with room left in both.
pub record HasRoom (p : Position) (segment : Segment) (words bytes : ℕ) : Type 0 where
  pub in_segment : p.segment ≡ segment
  pub words_left : p.words + words ≤ MOST_TEXT_WORDS
  pub bytes_left : p.bytes + bytes ≤ MOST_DATA_BYTES

-- after text
pub after_text : (n : Need) (p : Position) (words bytes : ℕ) → IsTextNeed n
    → HasRoom p Text (text_need n + words) bytes → HasRoom (after_need n p) Text words bytes
after_text Nothing p words bytes fits room =
    let w = room.words_left in
    record { in_segment = room.in_segment; words_left = omega arith; bytes_left = room.bytes_left }
after_text (Words n) p words bytes fits room =
    let w = room.words_left in
    let most = at_least n in
    record { in_segment = room.in_segment; words_left = omega arith; bytes_left = room.bytes_left }
  where
    at_least : (n : ℕ) → n ≤ text_need (Words n)
    at_least zero = omega arith
    at_least (suc n) = omega arith
after_text (Item unit size) p words bytes fits room = absurd fits
after_text (Switch segment) p words bytes fits room = absurd fits
after_text (Padding unit) p words bytes fits room = absurd fits

-- after data
pub after_data : (n : Need) (p : Position) (words bytes : ℕ) → IsDataNeed n
    → HasRoom p Data words (data_need n + bytes) → HasRoom (after_need n p) Data words bytes
after_data Nothing p words bytes fits room =
    let b = room.bytes_left in
    record { in_segment = room.in_segment; words_left = room.words_left; bytes_left = omega arith }
after_data (Words n) p words bytes fits room = absurd fits
after_data (Item unit size) p words bytes fits room =
    let b = room.bytes_left in
    let pad = fits p.bytes in
    record { in_segment = room.in_segment; words_left = room.words_left; bytes_left = omega arith }
after_data (Switch segment) p words bytes fits room = absurd fits
after_data (Padding unit) p words bytes fits room = by p.segment room.in_segment
  where
    by : (g : Segment) → g ≡ Data → HasRoom (padded g unit p) Data words bytes
    by Text e = cc
    by Data e =
        let b = room.bytes_left in
        let pad = fits p.bytes in
        record { in_segment = room.in_segment; words_left = room.words_left; bytes_left = omega arith }

-- in the data from here on
pub in_data : (p : Position) (words bytes : ℕ) → HasRoom p Text words bytes → HasRoom (after_need (Switch Data) p) Data words bytes
in_data p words bytes room = record { in_segment = refl; words_left = room.words_left; bytes_left = room.bytes_left }

-- with room left, no segment is too large
not_too_large : (p : Position) (segment : Segment) (words bytes : ℕ) → HasRoom p segment words bytes → is_too_large p ≡ false
not_too_large p segment words bytes room =
    let w = room.words_left in
    let b = room.bytes_left in
    or_from (nat_lt 66060288 p.words) (nat_lt 268435456 p.bytes) (le-ltb 66060288 p.words (omega arith))
    (le-ltb 268435456 p.bytes (omega arith))

-- the space that a statement needs is right in its segment

text_not_wrong : (n : Need) (g : Segment) → g ≡ Text → IsTextNeed n → is_wrong n g ≡ false
text_not_wrong Nothing g e fits = refl
text_not_wrong (Words n) g e fits = ap (λ (x : Segment). not (is_text x)) e
text_not_wrong (Item unit size) g e fits = absurd fits
text_not_wrong (Switch segment) g e fits = absurd fits
text_not_wrong (Padding unit) g e fits = absurd fits

data_not_wrong : (n : Need) (g : Segment) → g ≡ Data → IsDataNeed n → is_wrong n g ≡ false
data_not_wrong Nothing g e fits = refl
data_not_wrong (Words n) g e fits = absurd fits
data_not_wrong (Item unit size) g e fits = ap is_text e
data_not_wrong (Switch segment) g e fits = absurd fits
data_not_wrong (Padding unit) g e fits = ap (λ (x : Segment). is_text x && nat_lt 4 unit) e

-- Lines that stand where they may, from a position on: none is in the wrong segment, and none makes a segment too large.
abbrev pub StandWell : Position → List Line → Type 0
StandWell p [] = Unit {0}
StandWell p (line ∷ rest) =
    (is_wrong (need line.statement) p.segment ≡ false) × (is_too_large (after_line line p) ≡ false)
    × StandWell (after_line line p) rest

-- data that has room stands well
data_stands : (known : Name → Type 0) (p : Position) (words : ℕ) (lines : List Line) → AreData known lines
    → HasRoom p Data words (data_room lines) → StandWell p lines
data_stands known p words [] all room = tt
data_stands known p words (line ∷ rest) all room =
    let fits = needs_data known line.statement all.0 in
    let next = after_data (need line.statement) p words (data_room rest) fits room in (
      data_not_wrong (need line.statement) p.segment room.in_segment fits,
      not_too_large (after_line line p) Data words (data_room rest) next,
      data_stands known (after_line line p) words rest all.1 next,
    )

-- and so does text with the data after it
text_stands : (target known : Name → Type 0) (p : Position) (text items : List Line) → AreText target known text → AreData known items
    → HasRoom p Text (text_room text) (data_room items) → StandWell p (joined_lines text items)
text_stands target known p [] items all more room =
    let next = in_data p 0 (data_room items) room in (
      refl,
      not_too_large (after_need (Switch Data) p) Data 0 (data_room items) next,
      data_stands known (after_need (Switch Data) p) 0 items more next,
    )
text_stands target known p (line ∷ rest) items all more room =
    let fits = needs_text target known line.statement all.0 in
    let next = after_text (need line.statement) p (text_room rest) (data_room items) fits room in (
      text_not_wrong (need line.statement) p.segment room.in_segment fits,
      not_too_large (after_line line p) Text (text_room rest) (data_room items) next,
      text_stands target known (after_line line p) rest items all.1 more next,
    )

-- text and data that have room stand well from the start on
pub lines_stand : (target known : Name → Type 0) (text items : List Line) → AreText target known text → AreData known items
    → text_room text ≤ MOST_TEXT_WORDS → data_room items ≤ MOST_DATA_BYTES → StandWell start_position (joined_lines text items)
lines_stand target known text items all more words bytes =
    text_stands target known start_position text items all more
    (record { in_segment = refl; words_left = omega arith; bytes_left = omega arith })
