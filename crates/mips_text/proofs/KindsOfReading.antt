-- Parsing assembly gives only errors of the kinds A1 to A4: unknown word, wrong operand, number out of range, unknown directive.
use Rattle.std.proofs.Common.{subst, ℕ, Bool, true, false, List, [], ◌∷◌, ◌++◌, map, if◌then◌else◌, Result, Ok, Err}
use Rattle.std.specs.Prelude.{Option, Some, None, is_some}
use Rattle.std.specs.Option.{option_or}
use Rattle.std.specs.List.{AllByRecursion}
use Rattle.mips_isa.specs.declared.asm_fault.AsmKind.{AsmKind}
use Rattle.mips_isa.specs.declared.asm_fault.AsmKind.TheVariants.{A2, A3}
use Rattle.mips_isa.specs.declared.asm_fault.AsmFault.{AsmFault}
use Rattle.mips_isa.specs.Lines.{Line, Statement, Instruction}
use Rattle.mips_text.specs.declared.directives.Directive.{Directive}
use Rattle.mips_text.specs.declared.directives.Directive.TheVariants as directives
use Rattle.mips_text.specs.declared.mnemonics.Mnemonic.{Mnemonic}
use Rattle.mips_text.specs.declared.wanted.Range.TheVariants as range
use Rattle.mips_text.specs.declared.wanted.Wanted.{Wanted}
use Rattle.mips_text.specs.declared.wanted.Wanted.TheVariants as wanted
use Rattle.mips_text.specs.Laws.{IsReadingKind}
use Rattle.mips_text.specs.Names.{directive_named, mnemonic_named}
use Rattle.mips_text.specs.Operands.{each_fault, fault_unless, is_within, many_fault, misplaced, register_named, row_fault, word_fault}
use Rattle.mips_text.specs.Reading.{FirstFault, begins_with_dot, directive_read, instruction_read, judged, line_read, lines_in, rest_read, statement_read, with_label, without_label}
use Rattle.mips_text.specs.Statements.{directive_fault, directive_made, instruction_made, instruction_operands}
use Rattle.mips_text.specs.Strings.{all_known}
use Rattle.mips_text.specs.Words.{Word, Name, Number, Register, Text, Colon, Open, Close, Stray, words_of}

abbrev KindIn : Option AsmKind → Type 0
KindIn None = Unit {0}
KindIn (Some kind) = IsReadingKind kind

or_in : (o p : Option AsmKind) → KindIn o → KindIn p → KindIn (option_or o p)
or_in None p h g = g
or_in (Some kind) p h g = h

unless_in : (t : Bool) (kind : AsmKind) → IsReadingKind kind → KindIn (fault_unless t kind)
unless_in true kind h = tt
unless_in false kind h = h

word_in : (w : Wanted) (x : Word) → KindIn (word_fault w x)
word_in _ Stray = tt
word_in wanted.Register (Register name) = unless_in (is_some (register_named name)) A2 tt
word_in (wanted.Number r) (Number value) = unless_in (is_within r value) A3 tt
word_in wanted.Name (Name bytes) = tt
word_in (wanted.Target r) (Number value) = unless_in (is_within r value) A3 tt
word_in (wanted.Target r) (Name bytes) = tt
word_in wanted.Text (Text raw) = unless_in (all_known false raw) A2 tt
word_in wanted.Open Open = tt
word_in wanted.Close Close = tt
word_in _ _ = tt

misplaced_in : (x : Word) → IsReadingKind (misplaced x)
misplaced_in Stray = tt
misplaced_in _ = tt

row_in : (ws : List Wanted) (xs : List Word) → KindIn (row_fault ws xs)
row_in [] [] = tt
row_in (w ∷ ws) [] = tt
row_in [] (x ∷ xs) = misplaced_in x
row_in (w ∷ ws) (x ∷ xs) = or_in (word_fault w x) (row_fault ws xs) (word_in w x) (row_in ws xs)

each_in : (w : Wanted) (xs : List Word) → KindIn (each_fault w xs)
each_in w [] = tt
each_in w (x ∷ xs) = or_in (word_fault w x) (each_fault w xs) (word_in w x) (each_in w xs)

many_in : (w : Wanted) (xs : List Word) → KindIn (many_fault w xs)
many_in w [] = tt
many_in w (x ∷ xs) = each_in w (x ∷ xs)

directive_in : (d : Directive) (ws : List Word) → KindIn (directive_fault d ws)
directive_in directives.Text ws = row_in [] ws
directive_in directives.Data ws = row_in [] ws
directive_in directives.Globl ws = row_in (wanted.Name ∷ []) ws
directive_in directives.Word ws = many_in (wanted.Target range.Word) ws
directive_in directives.Byte ws = many_in (wanted.Number range.Byte) ws
directive_in directives.Ascii ws = row_in (wanted.Text ∷ []) ws
directive_in directives.Asciiz ws = row_in (wanted.Text ∷ []) ws
directive_in directives.Space ws = row_in (wanted.Number range.Space ∷ []) ws
directive_in directives.Align ws = row_in (wanted.Number range.Power ∷ []) ws

abbrev FaultIn : {A : Type 0} → Result A AsmKind → Type 0
FaultIn (Ok x) = Unit {0}
FaultIn (Err kind) = IsReadingKind kind

judged_in : (o : Option AsmKind) (statement : Statement) → KindIn o → FaultIn (judged o statement)
judged_in None statement h = tt
judged_in (Some kind) statement h = h

directive_read_in : (o : Option Directive) (ws : List Word) → FaultIn (directive_read o ws)
directive_read_in None ws = tt
directive_read_in (Some d) ws = judged_in (directive_fault d ws) (directive_made d ws) (directive_in d ws)

instruction_read_in : (o : Option Mnemonic) (ws : List Word) → FaultIn (instruction_read o ws)
instruction_read_in None ws = tt
instruction_read_in (Some m) ws = judged_in (row_fault (instruction_operands m ws) ws) (Instruction (instruction_made m ws)) (row_in (instruction_operands m ws) ws)

either_in : (t : Bool) (a b : Result Statement AsmKind) → FaultIn a → FaultIn b → FaultIn (if t then a else b)
either_in true a b h g = h
either_in false a b h g = g

statement_in : (name : List ℕ) (ws : List Word) → FaultIn (statement_read name ws)
statement_in name ws = either_in (begins_with_dot name) _ _ (directive_read_in (directive_named name) ws) (instruction_read_in (mnemonic_named name) ws)

without_in : (r : Result Statement AsmKind) → FaultIn r → FaultIn (without_label r)
without_in (Ok statement) h = tt
without_in (Err kind) h = h

with_in : (name : List ℕ) (r : Result Line AsmKind) → FaultIn r → FaultIn (with_label name r)
with_in name (Ok line) h = tt
with_in name (Err kind) h = h

rest_in : (ws : List Word) → FaultIn (rest_read ws)
rest_in [] = tt
rest_in (Name name ∷ ws) = statement_in name ws
rest_in (_ ∷ ws) = tt

line_in : (ws : List Word) → FaultIn (line_read ws)
line_in (Name name ∷ Colon ∷ ws) = with_in name (line_read ws) (line_in ws)
line_in [] = tt
line_in (Name name ∷ []) = without_in (rest_read (Name name ∷ [])) (rest_in (Name name ∷ []))
line_in (Name name ∷ w ∷ ws) = without_in (rest_read (Name name ∷ w ∷ ws)) (rest_in (Name name ∷ w ∷ ws))
line_in (w ∷ ws) = without_in (rest_read (w ∷ ws)) (rest_in (w ∷ ws))

all_in : (ls : List (List ℕ)) → AllByRecursion FaultIn (map (λ line. line_read (words_of line)) ls)
all_in [] = tt
all_in (l ∷ ls) = (line_in (words_of l), all_in ls)

fault_there : (good : List Line) (kind : AsmKind) (rest : List (Result Line AsmKind)) → AllByRecursion FaultIn (map Ok good ++ Err kind ∷ rest) → IsReadingKind kind
fault_there [] kind rest h = h.0
fault_there (l ∷ ls) kind rest h = fault_there ls kind rest h.1

pub kind_of_reading : (bytes : List ℕ) (fault : AsmFault) → FirstFault bytes fault → IsReadingKind fault.kind
kind_of_reading bytes fault h = fault_there h.good fault.kind h.rest (subst (AllByRecursion FaultIn) h.readings_are (all_in (lines_in bytes)))
