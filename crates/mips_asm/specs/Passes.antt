-- The results of the assembler's first pass: positions in text and data, the addresses of data items, and the symbol table (the labels with their positions).
use Rattle.std.specs.Prelude.{◌≡◌, ℕ, zero, suc, ◌+◌, ◌*◌, ◌<◌, ◌≤◌, ◌&&◌, not, is_some, bytes_eq, Bool, true, false, List, [], ◌∷◌, ◌++◌, length, map, Option, None, Some, Result, Ok, Err}
use Rattle.std.specs.Global.{Vec}
use Rattle.std.specs.Map.{lookup}
use Rattle.mips_isa.specs.declared.asm_fault.AsmError.{AsmError}
use Rattle.mips_isa.specs.declared.asm_fault.AsmError.TheVariants.{Memory, Fault}
use Rattle.mips_isa.specs.declared.asm_fault.AsmKind.TheVariants.{A5}
use Rattle.mips_isa.specs.declared.place.Segment.{Segment}
use Rattle.mips_isa.specs.declared.place.Segment.TheVariants.{Text, Data}
use Rattle.mips_isa.specs.declared.address_map.TheConstants.{TEXT_START, DATA_START, MOST_TEXT_WORDS, MOST_DATA_BYTES}
use Rattle.mips_isa.specs.Lines.{Name, Line}
use Rattle.mips_isa.specs.Assembly.{Position, Need, Nothing, Words, Item, Switch, Padding, need, start_position, start_name, main_name, after_line, up, first_pass, place_of, defining_fault, is_too_large, any_twice, after_need}
use Rattle.mips_asm.specs.Places.{LabelParts, places_of}
use Rattle.mips_asm.specs.declared.mark.Mark.{Mark}
use Rattle.mips_asm.specs.declared.mark.Mark.TheVariants.{InText, BeforeItem}
use Rattle.mips_asm.specs.declared.position.Position as declared_position
use Rattle.mips_asm.specs.declared.position.Need as declared_need
use Rattle.mips_asm.specs.declared.position.Need.TheVariants as needs

abbrev pub position_of : declared_position.Position → Position
position_of p = record { words = p.words; bytes = p.bytes; segment = p.segment }

abbrev pub need_of : declared_need.Need → Need
need_of needs.Nothing = Nothing
need_of (needs.Words n) = Words n
need_of (needs.WordItems n) = Item 4 (4 * n)
need_of (needs.Bytes n) = Item 1 n
need_of (needs.Switch segment) = Switch segment
need_of (needs.Padding unit) = Padding unit

-- a unit to fill up to is not 0, and at most 4096
abbrev pub IsSmall : declared_need.Need → Type 0
IsSmall needs.Nothing = Unit {0}
IsSmall (needs.Words n) = n ≤ 2
IsSmall (needs.WordItems n) = Unit {0}
IsSmall (needs.Bytes n) = Unit {0}
IsSmall (needs.Switch segment) = Unit {0}
IsSmall (needs.Padding unit) = (0 < unit) × (unit ≤ 4096)

-- no segment is too large
pub record Fits (words bytes : ℕ) : Type 0 where
  pub words_fit : words ≤ MOST_TEXT_WORDS
  pub bytes_fit : bytes ≤ MOST_DATA_BYTES

-- a position is the one after a need, or none where a segment is then too large
abbrev pub IsAfter : declared_need.Need → declared_position.Position → Option declared_position.Position → Type 0
IsAfter need p None = is_too_large (after_need (need_of need) (position_of p)) ≡ true
IsAfter need p (Some next) = (position_of next ≡ after_need (need_of need) (position_of p)) × (is_too_large (position_of next) ≡ false) × Fits next.words next.bytes

-- the position before the line at an index
abbrev pub position_at : Position → ℕ → List Line → Position
position_at p zero lines = p
position_at p (suc k) [] = p
position_at p (suc k) (line ∷ rest) = position_at (after_line line p) k rest

-- the position after lines
abbrev pub after_lines : Position → List Line → Position
after_lines p [] = p
after_lines p (line ∷ rest) = after_lines (after_line line p) rest

-- the address at which the item of a statement that needs this begins, if there is one, after so many bytes of data
abbrev pub item_in : Need → ℕ → List ℕ
item_in Nothing bytes = []
item_in (Words n) bytes = []
item_in (Item unit size) bytes = (DATA_START + up unit bytes) ∷ []
item_in (Switch segment) bytes = []
item_in (Padding unit) bytes = []

-- the address of each item of data
abbrev pub items_from : Position → List Line → List ℕ
items_from p [] = []
items_from p (line ∷ rest) = item_in (need line.statement) p.bytes ++ items_from (after_line line p) rest

-- the mark of a label in a segment, after so many words of text and so many items of data
abbrev pub mark_in : Segment → ℕ → ℕ → Mark
mark_in Text words items = InText (TEXT_START + 4 * words)
mark_in Data words items = BeforeItem items

-- each label of a line, with where it stands
abbrev pub marked : Mark → List Name → List (Name × Mark)
marked mark = map (λ name. (name, mark))

-- each label of lines, with where it stands, after so many items of data
abbrev pub table_from : Position → ℕ → List Line → List (Name × Mark)
table_from p items [] = []
table_from p items (line ∷ rest) =
    marked (mark_in p.segment p.words items) line.labels
    ++ table_from (after_line line p) (items + length (item_in (need line.statement) p.bytes)) rest

-- the names of a table of names in vectors
abbrev pub shown : List (Vec ℕ × Mark) → List (Name × Mark)
shown = map (λ entry. (entry.0.items, entry.1))

abbrev pub names_of : List (Name × Mark) → List Name
names_of = map (λ entry. entry.0)

-- a label stands in text, if there is one
abbrev pub marks_text : Option Mark → Bool
marks_text None = false
marks_text (Some (InText address)) = true
marks_text (Some (BeforeItem number)) = false

-- `__start` is not in a table, and `main` is, as a label of text
abbrev pub is_lacking : List (Name × Mark) → Bool
is_lacking table = not (is_some (lookup (bytes_eq start_name) table)) && marks_text (lookup (bytes_eq main_name) table)

-- the labels of a line are put into a table, unless one is there already
abbrev pub Defines : List (Name × Mark) → List Name → Mark → ℕ → Result Unit AsmError → List (Name × Mark) → Type 0
Defines old labels mark number (Ok done) new = (any_twice (names_of old) labels ≡ false) × (new ≡ old ++ marked mark labels)
Defines old labels mark number (Err Memory) new = Unit {0}
Defines old labels mark number (Err (Fault fault)) new = (any_twice (names_of old) labels ≡ true) × (fault ≡ record { kind = A5; line = number })

-- one line of the first pass, with the table before and after it
abbrev pub Steps : List (Name × Mark) → declared_position.Position → Line → Mark → ℕ → Result declared_position.Position AsmError → List (Name × Mark) → Type 0
Steps old p line mark number (Ok next) new =
    (defining_fault (names_of old) (position_of p) line ≡ None) × (position_of next ≡ after_line line (position_of p))
    × (new ≡ old ++ marked mark line.labels) × Fits next.words next.bytes
Steps old p line mark number (Err Memory) new = Unit {0}
Steps old p line mark number (Err (Fault fault)) new =
    (defining_fault (names_of old) (position_of p) line ≡ Some fault.kind) × (fault.line ≡ number)

-- the labels of lines, or the first fault of the first pass
abbrev pub FindsLabels : List Line → Result LabelParts AsmError → Type 0
FindsLabels lines (Ok labels) = (first_pass [] start_position 1 lines ≡ None) × (places_of labels ≡ place_of lines)
FindsLabels lines (Err Memory) = Unit {0}
FindsLabels lines (Err (Fault fault)) = first_pass [] start_position 1 lines ≡ Some fault
