-- Lines that were parsed from an assembly text can be printed and parsed again: their names are valid and their numbers are in range.
use Rattle.std.proofs.Common.{◌≡◌, ◌∙◌, sym, ap, subst, refl, arith, ℕ, ℤ, zero, suc, ◌<◌, Bool, true, false, List, [], ◌∷◌, length, map, take, nat_lt, if◌then◌else◌, Result, Ok, Err}
use Rattle.std.specs.Prelude.{Option, Some, None, option_map, ◌&&◌}
use Rattle.std.specs.Option.{option_or}
use Rattle.std.specs.List.{AllByRecursion, list_all, prefix_len, slice_get}
use Rattle.std.proofs.lemmas.List.{length-map}
use Rattle.std.proofs.lemmas.Bool.Decides.{nat_tests}
use Rattle.mips_isa.specs.declared.asm_fault.AsmKind.{AsmKind}
use Rattle.mips_isa.specs.declared.instr.TwoOp.{TwoOp}
use Rattle.mips_isa.specs.declared.instr.OneOp.{OneOp}
use Rattle.mips_isa.specs.declared.instr.JumpOp.{JumpOp}
use Rattle.mips_isa.specs.declared.instr.MemOp.{MemOp}
use Rattle.mips_isa.specs.Assembly.{names_of_instruction, names_of_items}
use Rattle.mips_isa.specs.Lines as lines
use Rattle.mips_isa.specs.Lines.{Line, Statement, AreInRange}
use Rattle.mips_text.specs.declared.class.Class.{Class}
use Rattle.mips_text.specs.declared.class.Class.TheVariants as class
use Rattle.mips_text.specs.declared.class.Start.{Start}
use Rattle.mips_text.specs.declared.class.Start.TheVariants as start
use Rattle.mips_text.specs.declared.directives.Directive.{Directive}
use Rattle.mips_text.specs.declared.directives.Directive.TheVariants as directives
use Rattle.mips_text.specs.declared.mnemonics.Mnemonic.{Mnemonic}
use Rattle.mips_text.specs.declared.mnemonics.Mnemonic.TheVariants as mnemonics
use Rattle.mips_text.specs.declared.span.Span.TheVariants as span
use Rattle.mips_text.specs.declared.wanted.Range.TheVariants as range
use Rattle.mips_text.specs.declared.wanted.Wanted.{Wanted}
use Rattle.mips_text.specs.declared.wanted.Wanted.TheVariants as wanted
use Rattle.mips_text.specs.Letters.{class_of, name_rest, name_start}
use Rattle.mips_text.specs.Names.{directive_named, mnemonic_named}
use Rattle.mips_text.specs.Operands.{many_fault, row_fault, word_fault}
use Rattle.mips_text.specs.Printable.{ArePrintable, IsName, IsPrintableStatement}
use Rattle.mips_text.specs.Reading.{Reads, begins_with_dot, directive_read, instruction_read, judged, line_read, lines_in, rest_read, statement_read, with_label, without_label}
use Rattle.mips_text.specs.Statements.{byte_made, directive_fault, directive_made, name_or_empty, has_open, instruction_made, instruction_operands, item_made, item_or, jalr_made, label_at, memory_made, name_at, name_of, number_at, number_of, register_at, to_jump, to_one, to_two}
use Rattle.mips_text.specs.Words.{Word, Name, Colon, Front, front, with_class, with_front, words_behind, words_of}
use Rattle.mips_text.specs.Fronts.{Magnitude, closing_quote, front_found, magnitude_found, takes}
use Rattle.mips_text.proofs.FrontsAreLongest.{front_is}
use Rattle.mips_text.proofs.Prefixes.{passes}
use Rattle.mips_text.proofs.StatementsInRange.{reads_in_range}

-- Words: those that are names are names

abbrev GoodWord : Word → Type 0
GoodWord (Name bytes) = IsName bytes
GoodWord _ = Unit {0}

abbrev GoodFront : Option Front → Type 0
GoodFront None = Unit {0}
GoodFront (Some f) = GoodWord f.word

name_begins : (b : ℕ) → class_of b ≡ class.Word start.Name → name_start b ≡ true
name_begins b h = grind (arith, nat_tests)

name_good : (b : ℕ) (bs : List ℕ) → name_start b ≡ true → IsName (b ∷ take (prefix_len name_rest bs) bs)
name_good b bs h = ap (λ (t : Bool). t && list_all name_rest (take (prefix_len name_rest bs) bs)) h ∙ passes name_rest bs (prefix_len name_rest bs) (omega arith)

number_good : (f : Magnitude → Front) (o : Option Magnitude) → ((m : Magnitude) → GoodWord (f m).word) → GoodFront (option_map f o)
number_good f (Some m) h = h m
number_good f None h = tt

text_good : (f : ℕ → Front) (o : Option ℕ) → ((n : ℕ) → GoodWord (f n).word) → GoodFront (option_map f o)
text_good f (Some n) h = h n
text_good f None h = tt

register_good : (t : Bool) (f : Front) → GoodWord f.word → GoodFront (if t then Some f else None)
register_good true f h = h
register_good false f h = tt

found_good : (s : Start) (b : ℕ) (bs : List ℕ) → class_of b ≡ class.Word s → GoodFront (front_found s b bs)
found_good start.Name b bs h = name_good b bs (name_begins b h)
found_good start.Digit b bs h = number_good _ (magnitude_found (b ∷ bs)) (λ m. tt)
found_good start.Minus b bs h = number_good _ (magnitude_found bs) (λ m. tt)
found_good start.Register b bs h = register_good (nat_lt 0 (prefix_len (takes span.Register) bs)) _ tt
found_good start.Text b bs h = text_good _ (closing_quote false 0 bs) (λ n. tt)
found_good start.Colon b bs h = tt
found_good start.Open b bs h = tt
found_good start.Close b bs h = tt
found_good start.Stray b bs h = tt

front_good : (o : Option Front) (behind : ℕ → List Word) → GoodFront o → ((n : ℕ) → AllByRecursion GoodWord (behind n)) → AllByRecursion GoodWord (with_front o behind)
front_good None behind h g = (tt, tt)
front_good (Some f) behind h g = (h, g f.after)

class_good : (k : Class) (b : ℕ) (bs : List ℕ) (behind : ℕ → List Word) → class_of b ≡ k → ((n : ℕ) → AllByRecursion GoodWord (behind n)) → AllByRecursion GoodWord (with_class k b bs behind)
class_good class.Blank b bs behind h g = g 0
class_good class.Comment b bs behind h g = tt
class_good (class.Word s) b bs behind h g = front_good (front s b bs) behind (subst GoodFront (sym (front_is s b bs)) (found_good s b bs h)) g

behind_good : (k : ℕ) (bs : List ℕ) → AllByRecursion GoodWord (words_behind k bs)
behind_good zero [] = tt
behind_good (suc k) [] = tt
behind_good (suc k) (b ∷ bs) = behind_good k bs
behind_good zero (b ∷ bs) = class_good (class_of b) b bs (λ n. words_behind n bs) refl (λ n. behind_good n bs)

-- Names by their places

abbrev NamesOf : Option (List ℕ) → Type 0
NamesOf (Some name) = IsName name
NamesOf None = Unit {0}

got_good : (o : Option Word) → ((w : Word) → o ≡ Some w → GoodWord w) → NamesOf (name_of o)
got_good None h = tt
got_good (Some (Name bytes)) h = h (Name bytes) refl
got_good (Some _) h = tt

at_good : (ws : List Word) (k : ℕ) (w : Word) → AllByRecursion GoodWord ws → slice_get ws k ≡ Some w → GoodWord w
at_good [] k w h e = absurd (cc)
at_good (x ∷ xs) zero w h e = let same : x ≡ w = cc in subst GoodWord same h.0
at_good (x ∷ xs) (suc k) w h e = at_good xs k w h.1 e

name_at_good : (ws : List Word) (k : ℕ) → AllByRecursion GoodWord ws → NamesOf (name_at ws k)
name_at_good ws k h = got_good (slice_get ws k) (λ w e. at_good ws k w h e)

-- a name where one is wanted
or_none : (o p : Option AsmKind) → option_or o p ≡ None → (o ≡ None) × (p ≡ None)
or_none None p e = (refl, e)
or_none (Some kind) p e = absurd (cc)

wanted_name : (w : Word) → word_fault wanted.Name w ≡ None → GoodWord w → IsName (name_or_empty (name_of (Some w)))
wanted_name (Name bytes) e h = h
wanted_name _ e h = absurd (cc)

first_name : (ws : List Word) → AllByRecursion GoodWord ws → row_fault (wanted.Name ∷ []) ws ≡ None → IsName (label_at ws 0)
first_name [] h e = absurd (cc)
first_name (x ∷ xs) h e = wanted_name x (or_none (word_fault wanted.Name x) _ e).0 h.0

second_name : (a : Wanted) (ws : List Word) → AllByRecursion GoodWord ws → row_fault (a ∷ wanted.Name ∷ []) ws ≡ None → IsName (label_at ws 1)
second_name a [] h e = absurd (cc)
second_name a (x ∷ xs) h e = first_name xs h.1 (or_none (word_fault a x) (row_fault (wanted.Name ∷ []) xs) e).1

third_name : (a b : Wanted) (ws : List Word) → AllByRecursion GoodWord ws → row_fault (a ∷ b ∷ wanted.Name ∷ []) ws ≡ None → IsName (label_at ws 2)
third_name a b [] h e = absurd (cc)
third_name a b (x ∷ xs) h e = second_name b xs h.1 (or_none (word_fault a x) (row_fault (b ∷ wanted.Name ∷ []) xs) e).1

-- Statements

two_names : (op : TwoOp) (rs rt : ℕ) (o : Option (List ℕ)) (v : ℤ) → NamesOf o → AllByRecursion IsName (names_of_instruction (to_two op rs rt o v))
two_names op rs rt (Some name) v h = (h, tt)
two_names op rs rt None v h = tt

one_names : (op : OneOp) (rs : ℕ) (o : Option (List ℕ)) (v : ℤ) → NamesOf o → AllByRecursion IsName (names_of_instruction (to_one op rs o v))
one_names op rs (Some name) v h = (h, tt)
one_names op rs None v h = tt

jump_names : (op : JumpOp) (o : Option (List ℕ)) (v : ℤ) → NamesOf o → AllByRecursion IsName (names_of_instruction (to_jump op o v))
jump_names op (Some name) v h = (h, tt)
jump_names op None v h = tt

jalr_names : (alone : Bool) (ws : List Word) → AllByRecursion IsName (names_of_instruction (jalr_made alone ws))
jalr_names true ws = tt
jalr_names false ws = tt

memory_names : (bare : Bool) (op : MemOp) (ws : List Word) → AllByRecursion IsName (names_of_instruction (memory_made bare op ws))
memory_names true op ws = tt
memory_names false op ws = tt

instruction_names : (m : Mnemonic) (ws : List Word) → AllByRecursion GoodWord ws → row_fault (instruction_operands m ws) ws ≡ None → AllByRecursion IsName (names_of_instruction (instruction_made m ws))
instruction_names (mnemonics.BranchTwo op) ws h e = two_names op (register_at ws 0) (register_at ws 1) (name_at ws 2) (number_at ws 2) (name_at_good ws 2 h)
instruction_names (mnemonics.BranchOne op) ws h e = one_names op (register_at ws 0) (name_at ws 1) (number_at ws 1) (name_at_good ws 1 h)
instruction_names (mnemonics.Jump op) ws h e = jump_names op (name_at ws 0) (number_at ws 0) (name_at_good ws 0 h)
instruction_names mnemonics.La ws h e = (second_name wanted.Register ws h e, tt)
instruction_names mnemonics.B ws h e = (first_name ws h e, tt)
instruction_names (mnemonics.BranchZero op) ws h e = (second_name wanted.Register ws h e, tt)
instruction_names (mnemonics.BranchOrder op) ws h e = (third_name wanted.Register wanted.Register ws h e, tt)
instruction_names mnemonics.Jalr ws h e = jalr_names (nat_lt (length ws) 2) ws
instruction_names (mnemonics.Mem op) ws h e = memory_names (has_open ws 1) op ws
instruction_names _ ws h e = tt

item_names : (o : Option (List ℕ)) (v : ℤ) (rest : List lines.WordItem) → NamesOf o → AllByRecursion IsName (names_of_items rest) → AllByRecursion IsName (names_of_items (item_or o v ∷ rest))
item_names (Some name) v rest h g = (h, g)
item_names None v rest h g = g

good_names : (w : Word) → GoodWord w → NamesOf (name_of (Some w))
good_names (Name bytes) h = h
good_names _ h = tt

items_names : (ws : List Word) → AllByRecursion GoodWord ws → AllByRecursion IsName (names_of_items (map item_made ws))
items_names [] h = tt
items_names (w ∷ ws) h = item_names (name_of (Some w)) (number_of (Some w)) (map item_made ws) (good_names w h.0) (items_names ws h.1)

some_words : (w : Wanted) (ws : List Word) → many_fault w ws ≡ None → 0 < length ws
some_words w [] e = absurd (cc)
some_words w (x ∷ xs) e = omega arith

directive_names : (d : Directive) (ws : List Word) → AllByRecursion GoodWord ws → directive_fault d ws ≡ None → IsPrintableStatement (directive_made d ws)
directive_names directives.Text ws h e = tt
directive_names directives.Data ws h e = tt
directive_names directives.Globl ws h e = first_name ws h e
directive_names directives.Word ws h e = (let some : 0 < length ws = some_words (wanted.Target range.Word) ws e in omega (arith, length-map ws item_made), items_names ws h)
directive_names directives.Byte ws h e = let some : 0 < length ws = some_words (wanted.Number range.Byte) ws e in omega (arith, length-map ws byte_made)
directive_names directives.Ascii ws h e = tt
directive_names directives.Asciiz ws h e = tt
directive_names directives.Space ws h e = tt
directive_names directives.Align ws h e = tt

-- Lines

abbrev StatementGood : Result Statement AsmKind → Type 0
StatementGood (Ok statement) = IsPrintableStatement statement
StatementGood (Err kind) = Unit {0}

abbrev LineGood : Result Line AsmKind → Type 0
LineGood (Ok line) = AllByRecursion IsName line.labels × IsPrintableStatement line.statement
LineGood (Err kind) = Unit {0}

judged_good : (o : Option AsmKind) (statement : Statement) → (o ≡ None → IsPrintableStatement statement) → StatementGood (judged o statement)
judged_good None statement h = h refl
judged_good (Some kind) statement h = tt

directive_good : (o : Option Directive) (ws : List Word) → AllByRecursion GoodWord ws → StatementGood (directive_read o ws)
directive_good None ws h = tt
directive_good (Some d) ws h = judged_good (directive_fault d ws) (directive_made d ws) (λ e. directive_names d ws h e)

instruction_good : (o : Option Mnemonic) (ws : List Word) → AllByRecursion GoodWord ws → StatementGood (instruction_read o ws)
instruction_good None ws h = tt
instruction_good (Some m) ws h = judged_good (row_fault (instruction_operands m ws) ws) (lines.Instruction (instruction_made m ws)) (λ e. instruction_names m ws h e)

either_good : (t : Bool) (a b : Result Statement AsmKind) → StatementGood a → StatementGood b → StatementGood (if t then a else b)
either_good true a b h g = h
either_good false a b h g = g

statement_good : (name : List ℕ) (ws : List Word) → AllByRecursion GoodWord ws → StatementGood (statement_read name ws)
statement_good name ws h = either_good (begins_with_dot name) _ _ (directive_good (directive_named name) ws h) (instruction_good (mnemonic_named name) ws h)

without_good : (r : Result Statement AsmKind) → StatementGood r → LineGood (without_label r)
without_good (Ok statement) h = (tt, h)
without_good (Err kind) h = tt

with_good : (name : List ℕ) (r : Result Line AsmKind) → IsName name → LineGood r → LineGood (with_label name r)
with_good name (Ok line) n h = ((n, h.0), h.1)
with_good name (Err kind) n h = tt

rest_good : (ws : List Word) → AllByRecursion GoodWord ws → StatementGood (rest_read ws)
rest_good [] h = tt
rest_good (Name name ∷ ws) h = statement_good name ws h.1
rest_good (_ ∷ ws) h = tt

line_good : (ws : List Word) → AllByRecursion GoodWord ws → LineGood (line_read ws)
line_good (Name name ∷ Colon ∷ ws) h = with_good name (line_read ws) h.0 (line_good ws h.1.1)
line_good [] h = (tt, tt)
line_good (Name name ∷ []) h = without_good (rest_read (Name name ∷ [])) (rest_good (Name name ∷ []) h)
line_good (Name name ∷ w ∷ ws) h = without_good (rest_read (Name name ∷ w ∷ ws)) (rest_good (Name name ∷ w ∷ ws) h)
line_good (w ∷ ws) h = without_good (rest_read (w ∷ ws)) (rest_good (w ∷ ws) h)

-- Texts

all_good : (ls : List (List ℕ)) → AllByRecursion LineGood (map (λ line. line_read (words_of line)) ls)
all_good [] = tt
all_good (l ∷ ls) = (line_good (words_of l) (behind_good 0 l), all_good ls)

printable : (ls : List Line) → AllByRecursion LineGood (map Ok ls) → AreInRange ls → ArePrintable ls
printable [] h g = tt
printable (l ∷ ls) h g = (record { labels = h.0.0; names = h.0.1; ranges = g.0 }, printable ls h.1 g.1)

-- the lines of a text are printable
pub reads_printable : (bytes : List ℕ) (ls : List Line) → Reads bytes ls → ArePrintable ls
reads_printable bytes ls h = printable ls (subst (AllByRecursion LineGood) h (all_good (lines_in bytes))) (reads_in_range bytes ls h)
