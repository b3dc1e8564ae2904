-- The statements of assembly: the operands that each instruction and each directive takes, and the statement that it makes with them. The table is in
-- `docs/assembly.md`, Statements, and in `docs/machine.md`.
use Rattle.std.specs.Prelude.{ℕ, ℤ, pos, negsuc, nat_lt, Bool, true, false, if◌then◌else◌, List, [], ◌∷◌, length, map, Option, Some, None}
use Rattle.std.specs.List.{slice_get}
use Rattle.mips_isa.specs.declared.asm_fault.AsmKind.{AsmKind}
use Rattle.mips_isa.specs.declared.register.TheConstants.{ZERO, RA}
use Rattle.mips_isa.specs.declared.instr.Instr.TheVariants as instr
use Rattle.mips_isa.specs.declared.instr.ImmOp.{ImmOp}
use Rattle.mips_isa.specs.declared.instr.ImmOp.TheVariants.{Addi, Addiu, Slti, Sltiu, Andi, Ori, Xori}
use Rattle.mips_isa.specs.declared.instr.TwoOp.{TwoOp}
use Rattle.mips_isa.specs.declared.instr.OneOp.{OneOp}
use Rattle.mips_isa.specs.declared.instr.JumpOp.{JumpOp}
use Rattle.mips_isa.specs.declared.instr.MemOp.{MemOp}
use Rattle.mips_isa.specs.Lines as lines
use Rattle.mips_text.specs.declared.directives.Directive.{Directive}
use Rattle.mips_text.specs.declared.directives.Directive.TheVariants as directives
use Rattle.mips_text.specs.declared.mnemonics.Mnemonic.{Mnemonic}
use Rattle.mips_text.specs.declared.mnemonics.Mnemonic.TheVariants as mnemonics
use Rattle.mips_text.specs.declared.wanted.Range.{Range}
use Rattle.mips_text.specs.declared.wanted.Range.TheVariants as range
use Rattle.mips_text.specs.declared.wanted.Wanted.{Wanted}
use Rattle.mips_text.specs.declared.wanted.Wanted.TheVariants as wanted
use Rattle.mips_text.specs.Operands.{register_named, is_within, row_fault, many_fault}
use Rattle.mips_text.specs.Strings.{unescaped}
use Rattle.mips_text.specs.Words.{Word, Name, Number, Register, Text, Colon, Open}

-- Operands by their places

-- a number that is in its range, or 0
abbrev pub kept : Range → ℤ → ℤ
kept r value = if is_within r value then value else pos 0

abbrev pub natural : ℤ → ℕ
natural (pos n) = n
natural (negsuc n) = 0

abbrev pub register_or_zero : Option ℕ → ℕ
register_or_zero None = ZERO
register_or_zero (Some register) = register

abbrev pub register_of : Option Word → ℕ
register_of (Some (Register name)) = register_or_zero (register_named name)
register_of _ = ZERO

abbrev pub number_of : Option Word → ℤ
number_of (Some (Number value)) = value
number_of _ = pos 0

abbrev pub name_of : Option Word → Option (List ℕ)
name_of (Some (Name bytes)) = Some bytes
name_of _ = None

abbrev pub name_or_empty : Option (List ℕ) → List ℕ
name_or_empty (Some bytes) = bytes
name_or_empty None = []

abbrev pub raw_of : Option Word → List ℕ
raw_of (Some (Text raw)) = raw
raw_of _ = []

abbrev pub is_open : Option Word → Bool
is_open (Some Open) = true
is_open _ = false

abbrev pub is_name : Option Word → Bool
is_name (Some (Name bytes)) = true
is_name _ = false

abbrev pub is_colon : Option Word → Bool
is_colon (Some Colon) = true
is_colon _ = false

abbrev pub register_at : List Word → ℕ → ℕ
register_at words index = register_of (slice_get words index)

abbrev pub number_at : List Word → ℕ → ℤ
number_at words index = number_of (slice_get words index)

abbrev pub name_at : List Word → ℕ → Option (List ℕ)
name_at words index = name_of (slice_get words index)

abbrev pub label_at : List Word → ℕ → List ℕ
label_at words index = name_or_empty (name_at words index)

abbrev pub raw_at : List Word → ℕ → List ℕ
raw_at words index = raw_of (slice_get words index)

abbrev pub has_name : List Word → ℕ → Bool
has_name words index = is_name (slice_get words index)

abbrev pub has_colon : List Word → ℕ → Bool
has_colon words index = is_colon (slice_get words index)

abbrev pub has_open : List Word → ℕ → Bool
has_open words index = is_open (slice_get words index)

-- The operands that instructions expect

abbrev pub one_register : List Wanted → List Wanted
one_register last = wanted.Register ∷ last

abbrev pub two_registers : List Wanted → List Wanted
two_registers last = wanted.Register ∷ wanted.Register ∷ last

abbrev pub three_registers : List Wanted
three_registers = wanted.Register ∷ wanted.Register ∷ wanted.Register ∷ []

abbrev pub imm_range : ImmOp → Range
imm_range Addi = range.Signed
imm_range Addiu = range.Signed
imm_range Slti = range.Signed
imm_range Sltiu = range.Signed
imm_range Andi = range.Unsigned
imm_range Ori = range.Unsigned
imm_range Xori = range.Unsigned

-- if there is only one register, it is the jump's target
abbrev pub jalr_operands : Bool → List Wanted
jalr_operands alone = if alone then one_register [] else two_registers []

-- an operand in memory may be without its number
abbrev pub memory_operands : Bool → List Wanted
memory_operands bare =
    if bare then one_register (wanted.Open ∷ wanted.Register ∷ wanted.Close ∷ [])
    else one_register (wanted.Number range.Signed ∷ wanted.Open ∷ wanted.Register ∷ wanted.Close ∷ [])

abbrev pub instruction_operands : Mnemonic → List Word → List Wanted
instruction_operands (mnemonics.Three op) words = three_registers
instruction_operands (mnemonics.Shift op) words = two_registers (wanted.Number range.Shift ∷ [])
instruction_operands (mnemonics.ShiftReg op) words = three_registers
instruction_operands mnemonics.Jr words = one_register []
instruction_operands mnemonics.Jalr words = jalr_operands (nat_lt (length words) 2)
instruction_operands mnemonics.Syscall words = []
instruction_operands (mnemonics.MoveFrom op) words = one_register []
instruction_operands (mnemonics.MoveTo op) words = one_register []
instruction_operands (mnemonics.MulDiv op) words = two_registers []
instruction_operands (mnemonics.Imm op) words = two_registers (wanted.Number (imm_range op) ∷ [])
instruction_operands mnemonics.Lui words = one_register (wanted.Number range.Unsigned ∷ [])
instruction_operands (mnemonics.BranchTwo op) words = two_registers (wanted.Target range.Signed ∷ [])
instruction_operands (mnemonics.BranchOne op) words = one_register (wanted.Target range.Signed ∷ [])
instruction_operands (mnemonics.Jump op) words = wanted.Target range.Index ∷ []
instruction_operands (mnemonics.Mem op) words = memory_operands (has_open words 1)
instruction_operands mnemonics.La words = one_register (wanted.Name ∷ [])
instruction_operands mnemonics.Li words = one_register (wanted.Number range.Word ∷ [])
instruction_operands mnemonics.Move words = two_registers []
instruction_operands mnemonics.Neg words = two_registers []
instruction_operands mnemonics.Nop words = []
instruction_operands mnemonics.B words = wanted.Name ∷ []
instruction_operands (mnemonics.BranchZero op) words = one_register (wanted.Name ∷ [])
instruction_operands (mnemonics.BranchOrder op) words = two_registers (wanted.Name ∷ [])
instruction_operands mnemonics.Mul words = three_registers

-- The instructions, from their operands

abbrev pub to_two : TwoOp → ℕ → ℕ → Option (List ℕ) → ℤ → lines.AsmInstr
to_two op rs rt (Some target) value = lines.ToTwo op rs rt target
to_two op rs rt None value = lines.Plain (instr.BranchTwo op rs rt (kept range.Signed value))

abbrev pub to_one : OneOp → ℕ → Option (List ℕ) → ℤ → lines.AsmInstr
to_one op rs (Some target) value = lines.ToOne op rs target
to_one op rs None value = lines.Plain (instr.BranchOne op rs (kept range.Signed value))

abbrev pub to_jump : JumpOp → Option (List ℕ) → ℤ → lines.AsmInstr
to_jump op (Some target) value = lines.ToJump op target
to_jump op None value = lines.Plain (instr.Jump op (natural (kept range.Index value)))

abbrev pub jalr_made : Bool → List Word → lines.AsmInstr
jalr_made alone words =
    if alone then lines.Plain (instr.Jalr RA (register_at words 0)) else lines.Plain (instr.Jalr (register_at words 0) (register_at words 1))

abbrev pub memory_made : Bool → MemOp → List Word → lines.AsmInstr
memory_made bare op words =
    if bare then lines.Plain (instr.Mem op (register_at words 0) (register_at words 2) (pos 0))
    else lines.Plain (instr.Mem op (register_at words 0) (register_at words 3) (kept range.Signed (number_at words 1)))

abbrev pub instruction_made : Mnemonic → List Word → lines.AsmInstr
instruction_made (mnemonics.Three op) ws = lines.Plain (instr.Three op (register_at ws 0) (register_at ws 1) (register_at ws 2))
instruction_made (mnemonics.Shift op) ws =
    lines.Plain (instr.Shift op (register_at ws 0) (register_at ws 1) (natural (kept range.Shift (number_at ws 2))))
instruction_made (mnemonics.ShiftReg op) ws = lines.Plain (instr.ShiftReg op (register_at ws 0) (register_at ws 1) (register_at ws 2))
instruction_made mnemonics.Jr ws = lines.Plain (instr.Jr (register_at ws 0))
instruction_made mnemonics.Jalr ws = jalr_made (nat_lt (length ws) 2) ws
instruction_made mnemonics.Syscall ws = lines.Plain instr.Syscall
instruction_made (mnemonics.MoveFrom op) ws = lines.Plain (instr.MoveFrom op (register_at ws 0))
instruction_made (mnemonics.MoveTo op) ws = lines.Plain (instr.MoveTo op (register_at ws 0))
instruction_made (mnemonics.MulDiv op) ws = lines.Plain (instr.MulDiv op (register_at ws 0) (register_at ws 1))
instruction_made (mnemonics.Imm op) ws =
    lines.Plain (instr.Imm op (register_at ws 0) (register_at ws 1) (kept (imm_range op) (number_at ws 2)))
instruction_made mnemonics.Lui ws = lines.Plain (instr.Lui (register_at ws 0) (kept range.Unsigned (number_at ws 1)))
instruction_made (mnemonics.BranchTwo op) ws = to_two op (register_at ws 0) (register_at ws 1) (name_at ws 2) (number_at ws 2)
instruction_made (mnemonics.BranchOne op) ws = to_one op (register_at ws 0) (name_at ws 1) (number_at ws 1)
instruction_made (mnemonics.Jump op) ws = to_jump op (name_at ws 0) (number_at ws 0)
instruction_made (mnemonics.Mem op) ws = memory_made (has_open ws 1) op ws
instruction_made mnemonics.La ws = lines.La (register_at ws 0) (label_at ws 1)
instruction_made mnemonics.Li ws = lines.Li (register_at ws 0) (kept range.Word (number_at ws 1))
instruction_made mnemonics.Move ws = lines.Move (register_at ws 0) (register_at ws 1)
instruction_made mnemonics.Neg ws = lines.Neg (register_at ws 0) (register_at ws 1)
instruction_made mnemonics.Nop ws = lines.Nop
instruction_made mnemonics.B ws = lines.B (label_at ws 0)
instruction_made (mnemonics.BranchZero op) ws = lines.BranchZero op (register_at ws 0) (label_at ws 1)
instruction_made (mnemonics.BranchOrder op) ws = lines.BranchOrder op (register_at ws 0) (register_at ws 1) (label_at ws 2)
instruction_made mnemonics.Mul ws = lines.Mul (register_at ws 0) (register_at ws 1) (register_at ws 2)

-- Directives

abbrev pub directive_fault : Directive → List Word → Option AsmKind
directive_fault directives.Text words = row_fault [] words
directive_fault directives.Data words = row_fault [] words
directive_fault directives.Globl words = row_fault (wanted.Name ∷ []) words
directive_fault directives.Word words = many_fault (wanted.Target range.Word) words
directive_fault directives.Byte words = many_fault (wanted.Number range.Byte) words
directive_fault directives.Ascii words = row_fault (wanted.Text ∷ []) words
directive_fault directives.Asciiz words = row_fault (wanted.Text ∷ []) words
directive_fault directives.Space words = row_fault (wanted.Number range.Space ∷ []) words
directive_fault directives.Align words = row_fault (wanted.Number range.Power ∷ []) words

abbrev pub item_or : Option (List ℕ) → ℤ → lines.WordItem
item_or (Some label) value = lines.Address label
item_or None value = lines.Number (kept range.Word value)

abbrev pub item_made : Word → lines.WordItem
item_made word = item_or (name_of (Some word)) (number_of (Some word))

abbrev pub byte_made : Word → ℤ
byte_made word = kept range.Byte (number_of (Some word))

abbrev pub text_made : List Word → List ℕ
text_made words = unescaped false (raw_at words 0)

abbrev pub directive_made : Directive → List Word → lines.Statement
directive_made directives.Text ws = lines.Directive lines.ToText
directive_made directives.Data ws = lines.Directive lines.ToData
directive_made directives.Globl ws = lines.Directive (lines.Globl (label_at ws 0))
directive_made directives.Word ws = lines.Data (lines.Word (map item_made ws))
directive_made directives.Byte ws = lines.Data (lines.Byte (map byte_made ws))
directive_made directives.Ascii ws = lines.Data (lines.Ascii (text_made ws))
directive_made directives.Asciiz ws = lines.Data (lines.Asciiz (text_made ws))
directive_made directives.Space ws = lines.Data (lines.Space (natural (kept range.Space (number_at ws 0))))
directive_made directives.Align ws = lines.Directive (lines.Align (natural (kept range.Power (number_at ws 0))))
