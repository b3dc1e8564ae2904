-- `text_label` gives the address of the instruction that a label names. A label of data, or of the end of the text segment, has none.
use Rattle.std.specs.Prelude.{◌≡◌, refl, ℕ, ◌+◌, ◌-◌, ◌*◌, ◌%◌, ◌==◌, ◌&&◌, nat_le, nat_lt, Bool, true, false, pos, if◌then◌else◌, List, [], ◌∷◌, length, codes, bytes_eq, Option, Some, None}
use Rattle.mips_isa.specs.declared.address_map.TheConstants.{TEXT_START}
use Rattle.mips_isa.specs.declared.place.Place.{Place}
use Rattle.mips_isa.specs.Lines.{Name, Line, Data, Instruction, Byte, Nop, ToText, ToData}
use Rattle.mips_isa.specs.Assembly.{place_of, is_text, completed, image_of, directive_line, main_name, start_name}
use Rattle.mips_asm.specs.Places.{LabelParts, places_of}

-- the address of a place in text before its end
abbrev pub address_before : ℕ → Option Place → Option ℕ
address_before end None = None
address_before end (Some place) = if is_text place.segment && nat_lt place.address end then Some place.address else None

-- the address after the text of lines, with the words that complete the program
abbrev pub text_end : List Line → ℕ
text_end lines = TEXT_START + 4 * length (image_of lines).text

-- The address of the word that a name is the label of; none where it is no label, that of data, or that of the text's end. Labels of the
-- lines that complete the program count, too.
abbrev pub text_label : List Line → Name → Option ℕ
text_label lines name = address_before (text_end lines) (place_of (completed lines) name)

-- whether a text that ends at an address has a word at another one
abbrev pub has_word : ℕ → ℕ → Bool
has_word end a = nat_le TEXT_START a && (a - TEXT_START) % 4 == 0 && nat_lt a end

-- A table of labels: those of lines, the address of a `__start` that completes them, and the address after the text.
pub record TextLabelParts : Type 0 where
  pub labels : LabelParts
  pub start : Option ℕ
  pub end : ℕ

-- the text label that a name is, whose place in lines is this one, where a `__start` may complete them and the text ends at an address
abbrev pub address_or_start : Option ℕ → ℕ → Name → Option Place → Option ℕ
address_or_start start end name None = if bytes_eq name start_name then start else None
address_or_start start end name (Some place) = address_before end (Some place)

-- the address of the word that a name is the label of, by a table
abbrev pub address_of : TextLabelParts → Name → Option ℕ
address_of table name = address_or_start table.start table.end name (places_of table.labels name)

-- Worked examples, of m: .byte 1 in the data, and main: nop in the text: the first instruction, the word that is added, data, and a name
-- that is none.
abbrev two_labels : List Line
two_labels =
    directive_line ToData ∷ record { labels = codes "m" ∷ []; statement = Data (Byte (pos 1 ∷ [])) } ∷ directive_line ToText
    ∷ record { labels = main_name ∷ []; statement = Instruction Nop } ∷ []

first_word : text_label two_labels main_name ≡ Some 0x00400000
first_word = refl

added_word : text_label two_labels start_name ≡ Some 0x00400004
added_word = refl

no_text : text_label two_labels (codes "m") ≡ None
no_text = refl

no_name : text_label two_labels (codes "n") ≡ None
no_name = refl

-- the words of a text of two, before it, in its second word, and behind it
second_word : has_word 0x00400008 0x00400004 ≡ true
second_word = refl

before_it : has_word 0x00400008 0x003ffffc ≡ false
before_it = refl

within_a_word : has_word 0x00400008 0x00400006 ≡ false
within_a_word = refl

behind_it : has_word 0x00400008 0x00400008 ≡ false
behind_it = refl
