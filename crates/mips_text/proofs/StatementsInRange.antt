-- The numbers in lines that were parsed from an assembly text are within the ranges of their operands.
use Rattle.std.proofs.Common.{◌≡◌, subst, refl, arith, ℕ, ℤ, pos, negsuc, ◌+◌, ◌≤◌, ◌<◌, Bool, true, false, List, [], ◌∷◌, length, map, nat_lt, if◌then◌else◌, Result, Ok, Err}
use Rattle.std.specs.Prelude.{Option, Some, None, bytes_eq}
use Rattle.std.specs.List.{AllByRecursion, slice_get}
use Rattle.std.specs.Option.{option_or}
use Rattle.std.proofs.lemmas.Bool.Decides.{nat_tests}
use Rattle.mips_isa.specs.declared.address_map.TheConstants.{MOST_DATA_BYTES}
use Rattle.mips_isa.specs.declared.asm_fault.AsmKind.{AsmKind}
use Rattle.mips_isa.specs.declared.instr.ImmOp.{ImmOp}
use Rattle.mips_isa.specs.declared.instr.ImmOp.TheVariants.{Addi, Addiu, Slti, Sltiu, Andi, Ori, Xori}
use Rattle.mips_isa.specs.declared.instr.TwoOp.{TwoOp}
use Rattle.mips_isa.specs.declared.instr.OneOp.{OneOp}
use Rattle.mips_isa.specs.declared.instr.JumpOp.{JumpOp}
use Rattle.mips_isa.specs.declared.instr.MemOp.{MemOp}
use Rattle.mips_isa.specs.Words.{IsSigned, IsUnsigned, IsImmediate}
use Rattle.mips_isa.specs.Lines as lines
use Rattle.mips_isa.specs.Lines.{Line, Statement, IsInRange, IsInstructionInRange, IsItem, IsWord, IsByte, AreInRange}
use Rattle.mips_text.specs.declared.directives.Directive.{Directive}
use Rattle.mips_text.specs.declared.directives.Directive.TheVariants as directives
use Rattle.mips_text.specs.declared.mnemonics.Mnemonic.{Mnemonic}
use Rattle.mips_text.specs.declared.mnemonics.Mnemonic.TheVariants as mnemonics
use Rattle.mips_text.specs.declared.wanted.Range.{Range}
use Rattle.mips_text.specs.declared.wanted.Range.TheVariants as range
use Rattle.mips_text.specs.Operands.{is_within, number_texts, place_from, register_named}
use Rattle.mips_text.specs.Names.{directive_named, mnemonic_named, register_texts}
use Rattle.mips_text.specs.Statements.{byte_made, directive_fault, directive_made, imm_range, instruction_made, instruction_operands, item_made, item_or, jalr_made, kept, memory_made, name_at, name_of, natural, number_at, number_of, has_open, register_at, register_of, register_or_zero, to_jump, to_one, to_two}
use Rattle.mips_text.specs.Operands.{row_fault}
use Rattle.mips_text.specs.Reading.{begins_with_dot, directive_read, instruction_read, judged, line_read, lines_in, Reads, rest_read, statement_read, with_label, without_label}
use Rattle.mips_text.specs.Words.{Word, Name, Register, Colon, words_of}

-- Registers

place_by : (i : ℕ) (known : List ℕ) (table : List (List ℕ)) (name : List ℕ) (k : ℕ) (t : Bool) → (place_from (i + 1) table name ≡ Some k → k < (i + 1) + length table) → (if t then Some i else place_from (i + 1) table name) ≡ Some k → k < i + length (known ∷ table)
place_by i known table name k true rest e = let same : i ≡ k = cc in omega arith
place_by i known table name k false rest e = omega (arith, rest e)

-- the place of a name in a table is one of it
place_below : (i : ℕ) (table : List (List ℕ)) (name : List ℕ) (k : ℕ) → place_from i table name ≡ Some k → k < i + length table
place_below i [] name k e = absurd (cc)
place_below i (known ∷ table) name k e = place_by i known table name k (bytes_eq known name) (place_below (i + 1) table name k) e

below_or_zero : (o p : Option ℕ) → ((k : ℕ) → o ≡ Some k → k < 32) → ((k : ℕ) → p ≡ Some k → k < 32) → register_or_zero (option_or o p) < 32
below_or_zero (Some k) p h g = h k refl
below_or_zero None (Some k) h g = g k refl
below_or_zero None None h g = omega arith

named_below : (name : List ℕ) → register_or_zero (register_named name) < 32
unfolding register_named
named_below name = below_or_zero (place_from 0 number_texts name) (place_from 0 register_texts name) (λ k e. place_below 0 number_texts name k e) (λ k e. place_below 0 register_texts name k e)

of_below : (o : Option Word) → register_of o < 32
of_below (Some (Register name)) = named_below name
of_below _ = omega arith

at_below : (words : List Word) (index : ℕ) → register_at words index < 32
at_below words index = of_below (slice_get words index)

-- Numbers

if_by : (P : ℤ → Type 0) (t : Bool) (v : ℤ) → P (pos 0) → (t ≡ true → P v) → P (if t then v else pos 0)
if_by P true v z h = h refl
if_by P false v z h = z

kept_by : (P : ℤ → Type 0) (r : Range) (v : ℤ) → P (pos 0) → (is_within r v ≡ true → P v) → P (kept r v)
kept_by P r v z h = if_by P (is_within r v) v z h

signed : (v : ℤ) → is_within range.Signed v ≡ true → IsSigned v
signed (pos n) h = grind (arith, nat_tests)
signed (negsuc n) h = grind (arith, nat_tests)

unsigned : (v : ℤ) → is_within range.Unsigned v ≡ true → IsUnsigned v
unsigned (pos n) h = grind (arith, nat_tests)
unsigned (negsuc n) h = absurd (let e : false ≡ true = h in cc)

word : (v : ℤ) → is_within range.Word v ≡ true → IsWord v
word (pos n) h = grind (arith, nat_tests)
word (negsuc n) h = grind (arith, nat_tests)

byte : (v : ℤ) → is_within range.Byte v ≡ true → IsByte v
byte (pos n) h = grind (arith, nat_tests)
byte (negsuc n) h = grind (arith, nat_tests)

below : ℕ → ℤ → Type 0
below bound v = natural v < bound

shift : (v : ℤ) → is_within range.Shift v ≡ true → natural v < 32
shift (pos n) h = grind (arith, nat_tests)
shift (negsuc n) h = omega arith

index : (v : ℤ) → is_within range.Index v ≡ true → natural v < 67108864
index (pos n) h = grind (arith, nat_tests)
index (negsuc n) h = omega arith

space : (v : ℤ) → is_within range.Space v ≡ true → natural v ≤ MOST_DATA_BYTES
space (pos n) h = grind (arith, nat_tests)
space (negsuc n) h = omega arith

power : (v : ℤ) → is_within range.Power v ≡ true → natural v ≤ 12
power (pos n) h = grind (arith, nat_tests)
power (negsuc n) h = omega arith

kept_signed : (v : ℤ) → IsSigned (kept range.Signed v)
kept_signed v = kept_by IsSigned range.Signed v (omega arith) (signed v)

kept_unsigned : (v : ℤ) → IsUnsigned (kept range.Unsigned v)
kept_unsigned v = kept_by IsUnsigned range.Unsigned v (omega arith) (unsigned v)

kept_word : (v : ℤ) → IsWord (kept range.Word v)
kept_word v = kept_by IsWord range.Word v (omega arith) (word v)

kept_byte : (v : ℤ) → IsByte (kept range.Byte v)
kept_byte v = kept_by IsByte range.Byte v (omega arith) (byte v)

kept_shift : (v : ℤ) → natural (kept range.Shift v) < 32
kept_shift v = kept_by (λ w. natural w < 32) range.Shift v (omega arith) (shift v)

kept_index : (v : ℤ) → natural (kept range.Index v) < 67108864
kept_index v = kept_by (λ w. natural w < 67108864) range.Index v (omega arith) (index v)

kept_space : (v : ℤ) → natural (kept range.Space v) ≤ MOST_DATA_BYTES
kept_space v = kept_by (λ w. natural w ≤ MOST_DATA_BYTES) range.Space v (omega arith) (space v)

kept_power : (v : ℤ) → natural (kept range.Power v) ≤ 12
kept_power v = kept_by (λ w. natural w ≤ 12) range.Power v (omega arith) (power v)

immediate : (op : ImmOp) (v : ℤ) → IsImmediate op (kept (imm_range op) v)
immediate Addi v = kept_signed v
immediate Addiu v = kept_signed v
immediate Slti v = kept_signed v
immediate Sltiu v = kept_signed v
immediate Andi v = kept_unsigned v
immediate Ori v = kept_unsigned v
immediate Xori v = kept_unsigned v

-- Statements

two_in : (op : TwoOp) (rs rt : ℕ) (o : Option (List ℕ)) (v : ℤ) → rs < 32 → rt < 32 → IsInstructionInRange (to_two op rs rt o v)
two_in op rs rt (Some target) v h g = (h, g)
two_in op rs rt None v h g = (h, g, kept_signed v)

one_in : (op : OneOp) (rs : ℕ) (o : Option (List ℕ)) (v : ℤ) → rs < 32 → IsInstructionInRange (to_one op rs o v)
one_in op rs (Some target) v h = h
one_in op rs None v h = (h, kept_signed v)

jump_in : (op : JumpOp) (o : Option (List ℕ)) (v : ℤ) → IsInstructionInRange (to_jump op o v)
jump_in op (Some target) v = tt
jump_in op None v = kept_index v

jalr_in : (alone : Bool) (ws : List Word) → IsInstructionInRange (jalr_made alone ws)
jalr_in true ws = (omega arith, at_below ws 0)
jalr_in false ws = (at_below ws 0, at_below ws 1)

memory_in : (bare : Bool) (op : MemOp) (ws : List Word) → IsInstructionInRange (memory_made bare op ws)
memory_in true op ws = (at_below ws 0, at_below ws 2, omega arith)
memory_in false op ws = (at_below ws 0, at_below ws 3, kept_signed (number_at ws 1))

instruction_in : (m : Mnemonic) (ws : List Word) → IsInstructionInRange (instruction_made m ws)
instruction_in (mnemonics.Three op) ws = (at_below ws 0, at_below ws 1, at_below ws 2)
instruction_in (mnemonics.Shift op) ws = (at_below ws 0, at_below ws 1, kept_shift (number_at ws 2))
instruction_in (mnemonics.ShiftReg op) ws = (at_below ws 0, at_below ws 1, at_below ws 2)
instruction_in mnemonics.Jr ws = at_below ws 0
instruction_in mnemonics.Jalr ws = jalr_in (nat_lt (length ws) 2) ws
instruction_in mnemonics.Syscall ws = tt
instruction_in (mnemonics.MoveFrom op) ws = at_below ws 0
instruction_in (mnemonics.MoveTo op) ws = at_below ws 0
instruction_in (mnemonics.MulDiv op) ws = (at_below ws 0, at_below ws 1)
instruction_in (mnemonics.Imm op) ws = (at_below ws 0, at_below ws 1, immediate op (number_at ws 2))
instruction_in mnemonics.Lui ws = (at_below ws 0, kept_unsigned (number_at ws 1))
instruction_in (mnemonics.BranchTwo op) ws = two_in op (register_at ws 0) (register_at ws 1) (name_at ws 2) (number_at ws 2) (at_below ws 0) (at_below ws 1)
instruction_in (mnemonics.BranchOne op) ws = one_in op (register_at ws 0) (name_at ws 1) (number_at ws 1) (at_below ws 0)
instruction_in (mnemonics.Jump op) ws = jump_in op (name_at ws 0) (number_at ws 0)
instruction_in (mnemonics.Mem op) ws = memory_in (has_open ws 1) op ws
instruction_in mnemonics.La ws = at_below ws 0
instruction_in mnemonics.Li ws = (at_below ws 0, kept_word (number_at ws 1))
instruction_in mnemonics.Move ws = (at_below ws 0, at_below ws 1)
instruction_in mnemonics.Neg ws = (at_below ws 0, at_below ws 1)
instruction_in mnemonics.Nop ws = tt
instruction_in mnemonics.B ws = tt
instruction_in (mnemonics.BranchZero op) ws = at_below ws 0
instruction_in (mnemonics.BranchOrder op) ws = (at_below ws 0, at_below ws 1)
instruction_in mnemonics.Mul ws = (at_below ws 0, at_below ws 1, at_below ws 2)

item_in : (o : Option (List ℕ)) (v : ℤ) → IsItem (item_or o v)
item_in (Some label) v = tt
item_in None v = kept_word v

items_in : (ws : List Word) → AllByRecursion IsItem (map item_made ws)
items_in [] = tt
items_in (w ∷ ws) = (item_in (name_of (Some w)) (number_of (Some w)), items_in ws)

bytes_in : (ws : List Word) → AllByRecursion IsByte (map byte_made ws)
bytes_in [] = tt
bytes_in (w ∷ ws) = (kept_byte (number_of (Some w)), bytes_in ws)

directive_in : (d : Directive) (ws : List Word) → IsInRange (directive_made d ws)
directive_in directives.Text ws = tt
directive_in directives.Data ws = tt
directive_in directives.Globl ws = tt
directive_in directives.Word ws = items_in ws
directive_in directives.Byte ws = bytes_in ws
directive_in directives.Ascii ws = tt
directive_in directives.Asciiz ws = tt
directive_in directives.Space ws = kept_space (number_at ws 0)
directive_in directives.Align ws = kept_power (number_at ws 0)

-- Lines

abbrev StatementIn : Result Statement AsmKind → Type 0
StatementIn (Ok statement) = IsInRange statement
StatementIn (Err kind) = Unit {0}

abbrev LineIn : Result Line AsmKind → Type 0
LineIn (Ok line) = IsInRange line.statement
LineIn (Err kind) = Unit {0}

judged_in : (o : Option AsmKind) (statement : Statement) → IsInRange statement → StatementIn (judged o statement)
judged_in None statement h = h
judged_in (Some kind) statement h = tt

directive_read_in : (o : Option Directive) (ws : List Word) → StatementIn (directive_read o ws)
directive_read_in None ws = tt
directive_read_in (Some d) ws = judged_in (directive_fault d ws) (directive_made d ws) (directive_in d ws)

instruction_read_in : (o : Option Mnemonic) (ws : List Word) → StatementIn (instruction_read o ws)
instruction_read_in None ws = tt
instruction_read_in (Some m) ws = judged_in (row_fault (instruction_operands m ws) ws) (lines.Instruction (instruction_made m ws)) (instruction_in m ws)

either_in : (t : Bool) (a b : Result Statement AsmKind) → StatementIn a → StatementIn b → StatementIn (if t then a else b)
either_in true a b h g = h
either_in false a b h g = g

statement_in : (name : List ℕ) (ws : List Word) → StatementIn (statement_read name ws)
statement_in name ws = either_in (begins_with_dot name) _ _ (directive_read_in (directive_named name) ws) (instruction_read_in (mnemonic_named name) ws)

without_in : (r : Result Statement AsmKind) → StatementIn r → LineIn (without_label r)
without_in (Ok statement) h = h
without_in (Err kind) h = tt

with_in : (name : List ℕ) (r : Result Line AsmKind) → LineIn r → LineIn (with_label name r)
with_in name (Ok line) h = h
with_in name (Err kind) h = tt

rest_in : (ws : List Word) → StatementIn (rest_read ws)
rest_in [] = tt
rest_in (Name name ∷ ws) = statement_in name ws
rest_in (_ ∷ ws) = tt

line_in : (ws : List Word) → LineIn (line_read ws)
line_in (Name name ∷ Colon ∷ ws) = with_in name (line_read ws) (line_in ws)
line_in [] = tt
line_in (Name name ∷ []) = without_in (rest_read (Name name ∷ [])) (rest_in (Name name ∷ []))
line_in (Name name ∷ w ∷ ws) = without_in (rest_read (Name name ∷ w ∷ ws)) (rest_in (Name name ∷ w ∷ ws))
line_in (w ∷ ws) = without_in (rest_read (w ∷ ws)) (rest_in (w ∷ ws))

-- Texts

all_in : (ls : List (List ℕ)) → AllByRecursion LineIn (map (λ line. line_read (words_of line)) ls)
all_in [] = tt
all_in (l ∷ ls) = (line_in (words_of l), all_in ls)

lines_good : (lines : List Line) → AllByRecursion LineIn (map Ok lines) → AreInRange lines
lines_good [] h = tt
lines_good (l ∷ ls) h = (h.0, lines_good ls h.1)

-- the lines of a text are in their ranges
pub reads_in_range : (bytes : List ℕ) (lines : List Line) → Reads bytes lines → AreInRange lines
reads_in_range bytes lines h = lines_good lines (subst (AllByRecursion LineIn) h (all_in (lines_in bytes)))
