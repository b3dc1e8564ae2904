-- A read of one line takes the input up to a newline or its end. The bytes of the line are not zero, and the input that is left is a suffix of the input.
use Rattle.std.proofs.Common.{◌≡◌, zero, suc, ◌≢◌, ℕ, ◌<◌, List, [], ◌∷◌, ◌++◌, length, refl, ap, ◌∙◌, arith, Bool, true, false}
use Rattle.std.specs.Prelude.{◌==◌, if◌then◌else◌}
use Rattle.mips_isa.specs.Calls.{Taken, taken, asked_line}
use Rattle.cool_runtime.specs.Reaches.{World, OnTheWay}
use Rattle.cool_runtime.specs.Machines.{line_of, line_asked}
use Rattle.cool_runtime.specs.Contents.{IsText}
use Rattle.lists.specs.Prefixes.{IsSuffix}
use Rattle.lists.specs.Bytes.{AreBytes}
use Rattle.lists.proofs.Prefixes.{suffix_more, suffix_then, suffix_same}

abbrev pub taking : List ℕ → List ℕ → Bool → Taken
taking got rest ended = record { got = got; rest = rest; ended = ended }

-- The next byte of the input, and the line that then is read.
pub data Front (input : List ℕ) : Type 0 where
  AtEnd : taken 1 input ≡ taking [] [] true → line_of input ≡ taking [] [] true → Front input
  AtNewline : (rest : List ℕ) → taken 1 input ≡ taking (10 ∷ []) rest false → line_of input ≡ taking [] rest false → Front input
  AtByte : (b : ℕ) (rest : List ℕ) → b ≢ 0 → b ≢ 10 → b < 256 → AreBytes rest → length rest < length input → taken 1 input ≡ taking (b ∷ []) rest false
      → line_of input ≡ taking (b ∷ (line_of rest).got) (line_of rest).rest (line_of rest).ended → Front input

longer : (b : ℕ) (input : List ℕ) → (b == 0) ≡ true → Front input → Front (b ∷ input)
longer b input null (AtEnd e f) = AtEnd (rw null e) (rw null f)
longer b input null (AtNewline rest e f) = AtNewline rest (rw null e) (rw null f)
longer b input null (AtByte c rest some other small bytes less e f) = AtByte c rest some other small bytes (omega arith) (rw null e) (rw null f)

pub front : (input : List ℕ) → AreBytes input → Front input
front [] bytes = AtEnd refl refl
front (b ∷ input) bytes = by (b == 0) (b == 10) refl refl (front input bytes.1)
  where
    by : (s t : Bool) → (b == 0) ≡ s → (b == 10) ≡ t → Front input → Front (b ∷ input)
    by true t null newline more = longer b input null more
    by false true null newline more = AtNewline input (let is : b ≡ 10 = grind arith in rw (null, newline) refl) (rw (null, newline) refl)
    by false false null newline more = AtByte b input (grind arith) (grind arith) bytes.0 bytes.1 (omega arith) (rw (null, newline) refl) (rw (null, newline) refl)

-- the bytes of a line are a text
pub line_text : (input : List ℕ) → AreBytes input → IsText (line_of input).got
line_text [] bytes = tt
line_text (b ∷ input) bytes = by (b == 0) (b == 10) refl (line_text input bytes.1)
  where
    by : (s t : Bool) → (b == 0) ≡ s → IsText (line_of input).got
        → IsText (if s then line_of input else (if t then taking [] input false else taking (b ∷ (line_of input).got) (line_of input).rest (line_of input).ended)).got
    by true t null more = more
    by false true null more = tt
    by false false null more = ((grind arith, bytes.0), more)

-- the input left after a line is a suffix

suffix_line : (input : List ℕ) → IsSuffix (line_of input).rest input
suffix_line [] = suffix_same []
suffix_line (b ∷ input) = by (b == 0) (b == 10) (suffix_more (line_of input).rest input (b ∷ []) (suffix_line input)) (suffix_more input input (b ∷ []) (suffix_same input))
  where
    by : (s t : Bool) → IsSuffix (line_of input).rest (b ∷ input) → IsSuffix input (b ∷ input)
        → IsSuffix (if s then line_of input else (if t then taking [] input false else taking (b ∷ (line_of input).got) (line_of input).rest (line_of input).ended)).rest (b ∷ input)
    by true t more one = more
    by false true more one = one
    by false false more one = more

pub suffix_asked : (ended : Bool) (input : List ℕ) → IsSuffix (line_asked ended input).rest input
suffix_asked true input = suffix_same input
suffix_asked false input = suffix_line input

pub on_the_way : (w : World) (output rest input : List ℕ) → IsSuffix rest input → OnTheWay w output rest → OnTheWay w output input
on_the_way w output rest input h way = record { written = way.written; taken = suffix_then w.left rest input way.taken h }

-- A line is what a call of the machine that takes a whole line takes, without its newline.

abbrev pub with_newline : Taken → List ℕ
with_newline t = if t.ended then t.got else t.got ++ 10 ∷ []

abbrev pub whole : Taken → Taken
whole t = taking (with_newline t) t.rest t.ended

longer_line : (b : ℕ) (got rest : List ℕ) (ended : Bool) → taking (b ∷ (if ended then got else got ++ 10 ∷ [])) rest ended ≡ whole (taking (b ∷ got) rest ended)
longer_line b got rest true = refl
longer_line b got rest false = refl

pub taken_line : (input : List ℕ) (n : ℕ) → length input < n → taken n input ≡ whole (line_of input)
taken_line input zero less = absurd (omega arith)
taken_line [] (suc n) less = refl
taken_line (b ∷ input) (suc n) less = by (b == 0) (b == 10) (taken_line input (suc n) (omega arith)) (taken_line input n (omega arith))
  where
    by : (s t : Bool) → taken (suc n) input ≡ whole (line_of input) → taken n input ≡ whole (line_of input)
        → (if s then taken (suc n) input else (if t then taking (10 ∷ []) input false else taking (b ∷ (taken n input).got) (taken n input).rest (taken n input).ended))
        ≡ whole (if s then line_of input else (if t then taking [] input false else taking (b ∷ (line_of input).got) (line_of input).rest (line_of input).ended))
    by true t more rest = more
    by false true more rest = refl
    by false false more rest =
        ap (λ (x : Taken). taking (b ∷ x.got) x.rest x.ended) rest ∙ longer_line b (line_of input).got (line_of input).rest (line_of input).ended

pub asked_line_is : (ended : Bool) (input : List ℕ) → asked_line ended input ≡ whole (line_asked ended input)
asked_line_is true input = refl
asked_line_is false input = taken_line input (suc (length input)) (omega arith)
