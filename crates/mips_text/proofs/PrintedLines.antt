-- If valid lines of assembly (`ArePrintable`) are printed and parsed again, the result is the same lines.
use Rattle.std.proofs.Common.{◌≡◌, ◌∙◌, ap, refl, arith, ℕ, ◌≤◌, ◌<◌, ℤ, pos, negsuc, Bool, true, false, List, [], ◌∷◌, ◌++◌, append_assoc, length, map, flat_map, codes, nat_le, if◌then◌else◌, Ok}
use Rattle.std.specs.Prelude.{Some, None, ◌&&◌, ◌==◌}
use Rattle.std.specs.List.{AllByRecursion, list_all}
use Rattle.std.specs.Option.{option_or}
use Rattle.std.specs.Fmt.{signed_decimal}
use Rattle.std.proofs.lemmas.List.{length-map}
use Rattle.std.proofs.lemmas.List.Folds.{list_all-append}
use Rattle.std.proofs.lemmas.Bool.Decides.{nat_tests}
use Rattle.mips_isa.specs.declared.address_map.TheConstants.{MOST_DATA_BYTES}
use Rattle.mips_isa.specs.Lines as lines
use Rattle.mips_isa.specs.Lines.{Line, Statement, IsByte, IsDataInRange, IsDirectiveInRange, IsInRange, IsItem}
use Rattle.mips_text.specs.declared.directives.Directive.{Directive}
use Rattle.mips_text.specs.declared.directives.Directive.TheVariants as directives
use Rattle.mips_text.specs.declared.wanted.Range.TheVariants as range
use Rattle.mips_text.specs.declared.wanted.Wanted.{Wanted}
use Rattle.mips_text.specs.declared.wanted.Wanted.TheVariants as wanted
use Rattle.mips_text.specs.declared.class.Start.TheVariants as start
use Rattle.mips_text.specs.Names.{directive_named, directive_text, is_name, mnemonic_named}
use Rattle.mips_text.specs.Operands.{each_fault, is_within, many_fault, word_fault}
use Rattle.mips_text.specs.Printable.{ArePrintable, IsName, IsPrintableData, IsPrintableDirective, IsPrintableStatement}
use Rattle.mips_text.specs.Printing.{data_text, indented_text, item_operand, label_text, other_directive_text, printed, statement_text, string_operand}
use Rattle.mips_text.specs.Reading.{Reads, directive_read, has_label, instruction_read, judged, line_read, lines_in, statement_read, with_byte, with_label, without_label}
use Rattle.mips_text.specs.Spelling.{letter_text, operands_text, row_text}
use Rattle.mips_text.specs.Statements.{byte_made, directive_fault, directive_made, item_made}
use Rattle.mips_text.specs.Words.{Word, Name, Number, Text, Colon, words_of}
use Rattle.mips_text.proofs.LabelsOfLines.{no_label}
use Rattle.mips_text.proofs.NamedMnemonics.{NamedDirective, directed}
use Rattle.mips_text.proofs.PrintedInstructions.{Said, instruction_is_said, word}
use Rattle.mips_text.proofs.SpelledNumbers.{IsSmall, number_spells}
use Rattle.mips_text.proofs.SpelledRows.{Ends, bytes_end, ends_nothing, item_word, items_end, operand_ends, row_reads}
use Rattle.mips_text.proofs.SpelledStrings.{raw_known, raw_unescaped, string_spells}
use Rattle.mips_text.proofs.SpelledWords.{Spells, in_line, name_spells, word_here}
use Rattle.std.proofs.lemmas.Bool.{and_from, le-leb, not-true, and_parts}

-- a directive and its operands
directive_said : (d : Directive) (operands : List (List ℕ)) (words : List Word) (s : Statement) → Ends (operands_text 0 operands) words → has_label (Name (directive_text d) ∷ words) 0 ≡ false → directive_fault d words ≡ None → directive_made d words ≡ s → Said (row_text (directive_text d) operands) s
directive_said d operands words s e l fault made =
    let k : NamedDirective d = directed d in
    let read : directive_read (Some d) words ≡ Ok s = ap (λ o. judged o (directive_made d words)) fault ∙ ap (λ x. Ok x) made in
    let told : statement_read (directive_text d) words ≡ directive_read (directive_named (directive_text d)) words =
    ap (λ (t : Bool). if t then directive_read (directive_named (directive_text d)) words else instruction_read (mnemonic_named (directive_text d)) words) k.dot in
    record {
      words = Name (directive_text d) ∷ words;
      row = row_reads (directive_text d) operands words k.name e;
      no_label = l;
      reads = told ∙ (ap (λ o. directive_read o words) k.named ∙ read);
    }

-- Operands of `.word` and `.byte`

item_good : (item : lines.WordItem) → IsItem item → (word_fault (wanted.Target range.Word) (item_word item) ≡ None) × (item_made (item_word item) ≡ item)
item_good (lines.Number v) h = let w : is_within range.Word v ≡ true = word v h in (rw w refl, rw w refl)
item_good (lines.Address label) h = (refl, refl)

items_good : (items : List lines.WordItem) → AllByRecursion IsItem items → (each_fault (wanted.Target range.Word) (map item_word items) ≡ None) × (map item_made (map item_word items) ≡ items)
items_good [] h = (refl, refl)
items_good (item ∷ items) h =
    let one = item_good item h.0 in
    let rest = items_good items h.1 in
    (ap (λ o. option_or o (each_fault (wanted.Target range.Word) (map item_word items))) one.0 ∙ rest.0, λ i. one.1 i ∷ rest.1 i)

byte : (v : ℤ) → IsByte v → is_within range.Byte v ≡ true
byte (pos n) h = grind (arith, nat_tests)
byte (negsuc n) h = grind (arith, nat_tests)

byte_good : (v : ℤ) → IsByte v → (word_fault (wanted.Number range.Byte) (Number v) ≡ None) × (byte_made (Number v) ≡ v)
byte_good v h = let w : is_within range.Byte v ≡ true = byte v h in (rw w refl, rw w refl)

bytes_good : (values : List ℤ) → AllByRecursion IsByte values → (each_fault (wanted.Number range.Byte) (map Number values) ≡ None) × (map byte_made (map Number values) ≡ values)
bytes_good [] h = (refl, refl)
bytes_good (v ∷ values) h =
    let one = byte_good v h.0 in
    let rest = bytes_good values h.1 in
    (ap (λ o. option_or o (each_fault (wanted.Number range.Byte) (map Number values))) one.0 ∙ rest.0, λ i. one.1 i ∷ rest.1 i)

items_plain : (items : List lines.WordItem) (name : List ℕ) → has_label (Name name ∷ map item_word items) 0 ≡ false
items_plain [] name = refl
items_plain (lines.Number v ∷ items) name = refl
items_plain (lines.Address label ∷ items) name = refl

bytes_plain : (values : List ℤ) (name : List ℕ) → has_label (Name name ∷ map Number values) 0 ≡ false
bytes_plain [] name = refl
bytes_plain (v ∷ values) name = refl

one_or_more : (w : Wanted) (xs : List Word) → 0 < length xs → many_fault w xs ≡ each_fault w xs
one_or_more w [] h = absurd (omega arith)
one_or_more w (x ∷ xs) h = refl

-- Data and directives

num : (n : ℕ) → IsSmall (pos n) → Ends (operands_text 0 (signed_decimal (pos n) ∷ [])) (Number (pos n) ∷ [])
num n h = operand_ends 0 (signed_decimal (pos n)) [] (Number (pos n) ∷ []) [] (number_spells (pos n) h) ends_nothing

text : (bytes : List ℕ) → Ends (operands_text 0 (string_operand bytes ∷ [])) (Text (flat_map letter_text bytes) ∷ [])
text bytes = operand_ends 0 (string_operand bytes) [] (Text (flat_map letter_text bytes) ∷ []) [] (string_spells bytes) ends_nothing

data_said : (item : lines.DataItem) → IsDataInRange item → IsPrintableData item → Said (data_text item) (lines.Data item)
data_said (lines.Word list) h g =
    let good = items_good list h in
    let some : many_fault (wanted.Target range.Word) (map item_word list) ≡ None =
    one_or_more (wanted.Target range.Word) (map item_word list) (omega (arith, g.0, length-map list item_word)) ∙ good.0 in
    directive_said directives.Word (map item_operand list) (map item_word list) (lines.Data (lines.Word list)) (items_end 0 list h g.1) (items_plain list (directive_text directives.Word)) some (ap (λ l. lines.Data (lines.Word l)) good.1)
data_said (lines.Byte list) h g =
    let good = bytes_good list h in
    let some : many_fault (wanted.Number range.Byte) (map Number list) ≡ None =
    one_or_more (wanted.Number range.Byte) (map Number list) (omega (arith, g, length-map list Number)) ∙ good.0 in
    directive_said directives.Byte (map signed_decimal list) (map Number list) (lines.Data (lines.Byte list)) (bytes_end 0 list h) (bytes_plain list (directive_text directives.Byte)) some (ap (λ l. lines.Data (lines.Byte l)) good.1)
data_said (lines.Ascii bytes) h g =
    directive_said directives.Ascii (string_operand bytes ∷ []) (Text (flat_map letter_text bytes) ∷ []) (lines.Data (lines.Ascii bytes)) (text bytes) refl (rw (raw_known bytes) refl) (ap (λ l. lines.Data (lines.Ascii l)) (raw_unescaped bytes))
data_said (lines.Asciiz bytes) h g =
    directive_said directives.Asciiz (string_operand bytes ∷ []) (Text (flat_map letter_text bytes) ∷ []) (lines.Data (lines.Asciiz bytes)) (text bytes) refl (rw (raw_known bytes) refl) (ap (λ l. lines.Data (lines.Asciiz l)) (raw_unescaped bytes))
data_said (lines.Space n) h g =
    let w : nat_le n MOST_DATA_BYTES ≡ true = le-leb n MOST_DATA_BYTES h in
    directive_said directives.Space (signed_decimal (pos n) ∷ []) (Number (pos n) ∷ []) (lines.Data (lines.Space n)) (num n (omega arith)) refl (rw w refl) (rw w refl)

other_said : (d : lines.AsmDirective) → IsDirectiveInRange d → IsPrintableDirective d → Said (other_directive_text d) (lines.Directive d)
other_said lines.ToText h g = directive_said directives.Text [] [] (lines.Directive lines.ToText) ends_nothing refl refl refl
other_said lines.ToData h g = directive_said directives.Data [] [] (lines.Directive lines.ToData) ends_nothing refl refl refl
other_said (lines.Globl name) h g =
    directive_said directives.Globl (name ∷ []) (Name name ∷ []) (lines.Directive (lines.Globl name)) (operand_ends 0 name [] (Name name ∷ []) [] (name_spells name g) ends_nothing) refl refl refl
other_said (lines.Align n) h g =
    let w : nat_le n 12 ≡ true = le-leb n 12 h in
    directive_said directives.Align (signed_decimal (pos n) ∷ []) (Number (pos n) ∷ []) (lines.Directive (lines.Align n)) (num n (omega arith)) refl (rw w refl) (rw w refl)

statement_said : (s : Statement) → IsInRange s → IsPrintableStatement s → Said (statement_text s) s
statement_said lines.Empty h g = record { words = []; row = record { reads = refl; one_line = refl }; no_label = refl; reads = refl }
statement_said (lines.Instruction i) h g = instruction_is_said i h g
statement_said (lines.Data item) h g = data_said item h g
statement_said (lines.Directive d) h g = other_said d h g

-- a statement behind a tab is read as it is without one
behind_tab : (text : List ℕ) (s : Statement) → Said text s → Said (9 ∷ text) s
behind_tab text s said = record {
  words = said.words;
  row = record { reads = said.row.reads; one_line = said.row.one_line };
  no_label = said.no_label;
  reads = said.reads;
}

indented_said : (s : Statement) → IsInRange s → IsPrintableStatement s → Said (indented_text s) s
indented_said lines.Empty h g = statement_said lines.Empty h g
indented_said (lines.Instruction i) h g = behind_tab (statement_text (lines.Instruction i)) (lines.Instruction i) (statement_said (lines.Instruction i) h g)
indented_said (lines.Data item) h g = behind_tab (statement_text (lines.Data item)) (lines.Data item) (statement_said (lines.Data item) h g)
indented_said (lines.Directive d) h g = behind_tab (statement_text (lines.Directive d)) (lines.Directive d) (statement_said (lines.Directive d) h g)

-- Labels

colon_read : (rest : List ℕ) → words_of (58 ∷ rest) ≡ Colon ∷ words_of rest
colon_read rest = word_here start.Colon 58 [] rest Colon refl refl

label_reads : (name rest : List ℕ) → is_name name ≡ true → words_of (label_text name ++ rest) ≡ Name name ∷ Colon ∷ words_of rest
label_reads name rest h =
    let n : Spells name (Name name ∷ []) = name_spells name h in
    ap words_of (append_assoc name (codes ":") rest) ∙ (n.reads (58 ∷ rest) refl ∙ ap (λ ws. Name name ∷ ws) (colon_read rest))

label_in_line : (name : List ℕ) → is_name name ≡ true → list_all in_line (label_text name) ≡ true
label_in_line name h =
    let n : Spells name (Name name ∷ []) = name_spells name h in
    list_all-append in_line name (codes ":") ∙ and_from _ _ n.one_line refl

-- a line without its newline
abbrev labels_before : List (List ℕ) → List ℕ → List ℕ
labels_before labels text = flat_map label_text labels ++ text

line_reads : (labels : List (List ℕ)) (text : List ℕ) (s : Statement) → AllByRecursion IsName labels → Said text s → line_read (words_of (labels_before labels text)) ≡ Ok (record { labels = labels; statement = s })
line_reads [] text s h said =
    ap line_read said.row.reads ∙ (no_label said.words said.no_label ∙ ap without_label said.reads)
line_reads (name ∷ labels) text s h said =
    ap (λ l. line_read (words_of l)) (append_assoc (label_text name) (flat_map label_text labels) text)
    ∙ (ap line_read (label_reads name (labels_before labels text) h.0) ∙ ap (with_label name) (line_reads labels text s h.1 said))

one_line : (labels : List (List ℕ)) (text : List ℕ) → AllByRecursion IsName labels → list_all in_line text ≡ true → list_all in_line (labels_before labels text) ≡ true
one_line [] text h g = g
one_line (name ∷ labels) text h g =
    ap (list_all in_line) (append_assoc (label_text name) (flat_map label_text labels) text)
    ∙ (list_all-append in_line (label_text name) (labels_before labels text) ∙ and_from _ _ (label_in_line name h.0) (one_line labels text h.1 g))

-- Lines

-- a line of a text ends at its newline
line_ends : (text rest : List ℕ) → list_all in_line text ≡ true → lines_in (text ++ (10 ∷ rest)) ≡ text ∷ lines_in rest
line_ends [] rest h = refl
line_ends (b ∷ bs) rest h =
    let both = and_parts (in_line b) (list_all in_line bs) h in
    let here : (b == 10) ≡ false = not-true (b == 10) both.0 in
    ap (λ (t : Bool). if t then [] ∷ lines_in (bs ++ (10 ∷ rest)) else with_byte b (lines_in (bs ++ (10 ∷ rest)))) here ∙ ap (with_byte b) (line_ends bs rest both.1)

regroup : (labels statement rest : List ℕ) → (labels ++ (statement ++ (10 ∷ []))) ++ rest ≡ (labels ++ statement) ++ (10 ∷ rest)
regroup labels statement rest = simp append_assoc

-- Texts
pub printed_is_read : (ls : List Line) → ArePrintable ls → Reads (printed ls) ls
printed_is_read [] h = refl
printed_is_read (line ∷ ls) h =
    let said : Said (indented_text line.statement) line.statement = indented_said line.statement h.0.ranges h.0.names in
    let body : List ℕ = labels_before line.labels (indented_text line.statement) in
    let cut : lines_in (printed (line ∷ ls)) ≡ body ∷ lines_in (printed ls) =
    ap lines_in (regroup (flat_map label_text line.labels) (indented_text line.statement) (printed ls))
    ∙ line_ends body (printed ls) (one_line line.labels (indented_text line.statement) h.0.labels said.row.one_line) in
    ap (map (λ l. line_read (words_of l))) cut
    ∙ (λ i. line_reads line.labels (indented_text line.statement) line.statement h.0.labels said i ∷ printed_is_read ls h.1 i)
