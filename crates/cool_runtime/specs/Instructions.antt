-- Abbreviations for assembly lines, such as `lw`, `addu` and `jal`, in which the run-time routines and the code of calls are written.
use Rattle.std.specs.Prelude.{ℕ, ℤ, pos, [], ◌∷◌}
use Rattle.mips_isa.specs.declared.instr.Instr.TheVariants.{Three, Shift, Jr, Jalr, Syscall, MoveFrom, MulDiv, Imm, Lui, BranchTwo, BranchOne, Mem}
use Rattle.mips_isa.specs.declared.instr.ThreeOp.TheVariants as three
use Rattle.mips_isa.specs.declared.instr.ShiftOp.TheVariants as shift
use Rattle.mips_isa.specs.declared.instr.FromOp.TheVariants as from
use Rattle.mips_isa.specs.declared.instr.MulDivOp.TheVariants as muldiv
use Rattle.mips_isa.specs.declared.instr.ImmOp.TheVariants as imm
use Rattle.mips_isa.specs.declared.instr.TwoOp.TheVariants as two
use Rattle.mips_isa.specs.declared.instr.OneOp.TheVariants as one
use Rattle.mips_isa.specs.declared.instr.JumpOp.TheVariants as jump
use Rattle.mips_isa.specs.declared.instr.MemOp.TheVariants as memory
use Rattle.mips_isa.specs.declared.register.TheConstants.{ZERO, V0, RA}
use Rattle.mips_isa.specs.Lines.{Name, Empty, Plain, ToJump, La, Li, Move, Line}
use Rattle.mips_isa.specs.Assembly.{instruction_line}

-- a line with only a label
abbrev pub label : Name → Line
label name = record { labels = name ∷ []; statement = Empty }

abbrev pub addu : ℕ → ℕ → ℕ → Line
addu rd rs rt = instruction_line (Plain (Three three.Addu rd rs rt))

abbrev pub subu : ℕ → ℕ → ℕ → Line
subu rd rs rt = instruction_line (Plain (Three three.Subu rd rs rt))

abbrev pub slt : ℕ → ℕ → ℕ → Line
slt rd rs rt = instruction_line (Plain (Three three.Slt rd rs rt))

abbrev pub sltu : ℕ → ℕ → ℕ → Line
sltu rd rs rt = instruction_line (Plain (Three three.Sltu rd rs rt))

abbrev pub sll : ℕ → ℕ → ℕ → Line
sll rd rt k = instruction_line (Plain (Shift shift.Sll rd rt k))

abbrev pub srl : ℕ → ℕ → ℕ → Line
srl rd rt k = instruction_line (Plain (Shift shift.Srl rd rt k))

abbrev pub addiu : ℕ → ℕ → ℤ → Line
addiu rt rs n = instruction_line (Plain (Imm imm.Addiu rt rs n))

-- the number of a system call to $v0
abbrev pub call_number : ℕ → Line
call_number number = addiu V0 ZERO (pos number)

abbrev pub lw : ℕ → ℤ → ℕ → Line
lw rt n rs = instruction_line (Plain (Mem memory.Lw rt rs n))

abbrev pub sw : ℕ → ℤ → ℕ → Line
sw rt n rs = instruction_line (Plain (Mem memory.Sw rt rs n))

abbrev pub lbu : ℕ → ℤ → ℕ → Line
lbu rt n rs = instruction_line (Plain (Mem memory.Lbu rt rs n))

abbrev pub sb : ℕ → ℤ → ℕ → Line
sb rt n rs = instruction_line (Plain (Mem memory.Sb rt rs n))

abbrev pub move : ℕ → ℕ → Line
move rd rs = instruction_line (Move rd rs)

abbrev pub la : ℕ → Name → Line
la rd name = instruction_line (La rd name)

abbrev pub jr : ℕ → Line
jr rs = instruction_line (Plain (Jr rs))

abbrev pub jalr : ℕ → Line
jalr rs = instruction_line (Plain (Jalr RA rs))

abbrev pub j : Name → Line
j name = instruction_line (ToJump jump.J name)

abbrev pub jal : Name → Line
jal name = instruction_line (ToJump jump.Jal name)

abbrev pub syscall : Line
syscall = instruction_line (Plain Syscall)

-- branches that pass over the next line

abbrev pub beq : ℕ → ℕ → Line
beq rs rt = instruction_line (Plain (BranchTwo two.Beq rs rt (pos 1)))

abbrev pub bne : ℕ → ℕ → Line
bne rs rt = instruction_line (Plain (BranchTwo two.Bne rs rt (pos 1)))

abbrev pub bgez : ℕ → Line
bgez rs = instruction_line (Plain (BranchOne one.Bgez rs (pos 1)))

-- HI and LO

abbrev pub mult : ℕ → ℕ → Line
mult rs rt = instruction_line (Plain (MulDiv muldiv.Mult rs rt))

abbrev pub div : ℕ → ℕ → Line
div rs rt = instruction_line (Plain (MulDiv muldiv.Div rs rt))

abbrev pub mflo : ℕ → Line
mflo rd = instruction_line (Plain (MoveFrom from.Mflo rd))

abbrev pub mfhi : ℕ → Line
mfhi rd = instruction_line (Plain (MoveFrom from.Mfhi rd))

-- numbers

abbrev pub sltiu : ℕ → ℕ → ℤ → Line
sltiu rt rs n = instruction_line (Plain (Imm imm.Sltiu rt rs n))

abbrev pub lui : ℕ → ℤ → Line
lui rt n = instruction_line (Plain (Lui rt n))

abbrev pub li : ℕ → ℕ → Line
li rd n = instruction_line (Li rd (pos n))
