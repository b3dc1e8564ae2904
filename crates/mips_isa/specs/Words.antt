-- `word_of` encodes an instruction as a 32-bit word, by the table of the integer R2000 (MIPS I). A word has the fields op (bits 31 to 26), rs (25 to 21), rt
-- (20 to 16), rd (15 to 11), sh (10 to 6), fn (5 to 0), imm (15 to 0) and index (25 to 0). A field that a row does not name is 0.
use Rattle.std.specs.Prelude.{◌≡◌, ℕ, ◌+◌, ◌-◌, ◌*◌, ◌%◌, ◌^◌, ◌<◌, ℤ, pos, negsuc, refl}
use Rattle.mips_isa.specs.declared.instr.Instr.{Instr}
use Rattle.mips_isa.specs.declared.instr.Instr.TheVariants.{Three, Shift, ShiftReg, Jr, Jalr, Syscall, MoveFrom, MoveTo, MulDiv, Imm, Lui, BranchTwo, BranchOne, Jump, Mem}
use Rattle.mips_isa.specs.declared.instr.ThreeOp.{ThreeOp}
use Rattle.mips_isa.specs.declared.instr.ThreeOp.TheVariants.{Add, Addu, Sub, Subu, And, Or, Xor, Nor, Slt, Sltu}
use Rattle.mips_isa.specs.declared.instr.ShiftOp.{ShiftOp}
use Rattle.mips_isa.specs.declared.instr.ShiftOp.TheVariants.{Sll, Srl, Sra}
use Rattle.mips_isa.specs.declared.instr.ShiftRegOp.{ShiftRegOp}
use Rattle.mips_isa.specs.declared.instr.ShiftRegOp.TheVariants.{Sllv, Srlv, Srav}
use Rattle.mips_isa.specs.declared.instr.FromOp.{FromOp}
use Rattle.mips_isa.specs.declared.instr.FromOp.TheVariants.{Mfhi, Mflo}
use Rattle.mips_isa.specs.declared.instr.ToOp.{ToOp}
use Rattle.mips_isa.specs.declared.instr.ToOp.TheVariants.{Mthi, Mtlo}
use Rattle.mips_isa.specs.declared.instr.MulDivOp.{MulDivOp}
use Rattle.mips_isa.specs.declared.instr.MulDivOp.TheVariants.{Mult, Multu, Div, Divu}
use Rattle.mips_isa.specs.declared.instr.ImmOp.{ImmOp}
use Rattle.mips_isa.specs.declared.instr.ImmOp.TheVariants.{Addi, Addiu, Slti, Sltiu, Andi, Ori, Xori}
use Rattle.mips_isa.specs.declared.instr.TwoOp.{TwoOp}
use Rattle.mips_isa.specs.declared.instr.TwoOp.TheVariants.{Beq, Bne}
use Rattle.mips_isa.specs.declared.instr.OneOp.{OneOp}
use Rattle.mips_isa.specs.declared.instr.OneOp.TheVariants.{Blez, Bgtz, Bltz, Bgez}
use Rattle.mips_isa.specs.declared.instr.JumpOp.{JumpOp}
use Rattle.mips_isa.specs.declared.instr.JumpOp.TheVariants.{J, Jal}
use Rattle.mips_isa.specs.declared.instr.MemOp.{MemOp}
use Rattle.mips_isa.specs.declared.instr.MemOp.TheVariants.{Lb, Lh, Lw, Lbu, Lhu, Sb, Sh, Sw}
use Rattle.mips_isa.specs.declared.register.TheConstants.{ZERO, A0, T0, FP}

-- a word of these fields, the last of which are 16 bits
abbrev pub fields : ℕ → ℕ → ℕ → ℕ → ℕ
fields op rs rt low = op * 2 ^ 26 + rs * 2 ^ 21 + rt * 2 ^ 16 + low

-- a word with op 0
abbrev pub special : ℕ → ℕ → ℕ → ℕ → ℕ → ℕ
special rs rt rd sh fn = fields 0 rs rt (rd * 2 ^ 11 + sh * 2 ^ 6 + fn)

-- the 32 bits of a signed number, and its lower 16
abbrev pub bits_of : ℤ → ℕ
bits_of (pos n) = n
bits_of (negsuc n) = 2 ^ 32 - 1 - n

abbrev pub half_of : ℤ → ℕ
half_of z = bits_of z % 2 ^ 16

-- fn with op 0

abbrev pub three_number : ThreeOp → ℕ
three_number Add = 32
three_number Addu = 33
three_number Sub = 34
three_number Subu = 35
three_number And = 36
three_number Or = 37
three_number Xor = 38
three_number Nor = 39
three_number Slt = 42
three_number Sltu = 43

abbrev pub shift_number : ShiftOp → ℕ
shift_number Sll = 0
shift_number Srl = 2
shift_number Sra = 3

abbrev pub shift_reg_number : ShiftRegOp → ℕ
shift_reg_number Sllv = 4
shift_reg_number Srlv = 6
shift_reg_number Srav = 7

abbrev pub from_number : FromOp → ℕ
from_number Mfhi = 16
from_number Mflo = 18

abbrev pub to_number : ToOp → ℕ
to_number Mthi = 17
to_number Mtlo = 19

abbrev pub mul_div_number : MulDivOp → ℕ
mul_div_number Mult = 24
mul_div_number Multu = 25
mul_div_number Div = 26
mul_div_number Divu = 27

-- op

abbrev pub imm_number : ImmOp → ℕ
imm_number Addi = 8
imm_number Addiu = 9
imm_number Slti = 10
imm_number Sltiu = 11
imm_number Andi = 12
imm_number Ori = 13
imm_number Xori = 14

abbrev pub two_number : TwoOp → ℕ
two_number Beq = 4
two_number Bne = 5

-- a branch on one register has its op, and for op 1 its rt
abbrev pub one_number : OneOp → ℕ
one_number Blez = 6
one_number Bgtz = 7
one_number Bltz = 1
one_number Bgez = 1

abbrev pub one_rt : OneOp → ℕ
one_rt Blez = 0
one_rt Bgtz = 0
one_rt Bltz = 0
one_rt Bgez = 1

abbrev pub jump_number : JumpOp → ℕ
jump_number J = 2
jump_number Jal = 3

abbrev pub mem_number : MemOp → ℕ
mem_number Lb = 32
mem_number Lh = 33
mem_number Lw = 35
mem_number Lbu = 36
mem_number Lhu = 37
mem_number Sb = 40
mem_number Sh = 41
mem_number Sw = 43

-- the word of an instruction
abbrev pub word_of : Instr → ℕ
word_of (Three op rd rs rt) = special rs rt rd 0 (three_number op)
word_of (Shift op rd rt sh) = special 0 rt rd sh (shift_number op)
word_of (ShiftReg op rd rt rs) = special rs rt rd 0 (shift_reg_number op)
word_of (Jr rs) = special rs 0 0 0 8
word_of (Jalr rd rs) = special rs 0 rd 0 9
word_of Syscall = special 0 0 0 0 12
word_of (MoveFrom op rd) = special 0 0 rd 0 (from_number op)
word_of (MoveTo op rs) = special rs 0 0 0 (to_number op)
word_of (MulDiv op rs rt) = special rs rt 0 0 (mul_div_number op)
word_of (Imm op rt rs imm) = fields (imm_number op) rs rt (half_of imm)
word_of (Lui rt imm) = fields 15 0 rt (half_of imm)
word_of (BranchTwo op rs rt imm) = fields (two_number op) rs rt (half_of imm)
word_of (BranchOne op rs imm) = fields (one_number op) rs (one_rt op) (half_of imm)
word_of (Jump op index) = jump_number op * 2 ^ 26 + index
word_of (Mem op rt rs imm) = fields (mem_number op) rs rt (half_of imm)

-- immediates that are extended by sign, and those that are extended by zeros
abbrev pub IsSigned : ℤ → Type 0
IsSigned (pos n) = n < 32768
IsSigned (negsuc n) = n < 32768

abbrev pub IsUnsigned : ℤ → Type 0
IsUnsigned (pos n) = n < 65536
IsUnsigned (negsuc n) = ⊥

abbrev pub IsImmediate : ImmOp → ℤ → Type 0
IsImmediate Addi imm = IsSigned imm
IsImmediate Addiu imm = IsSigned imm
IsImmediate Slti imm = IsSigned imm
IsImmediate Sltiu imm = IsSigned imm
IsImmediate Andi imm = IsUnsigned imm
IsImmediate Ori imm = IsUnsigned imm
IsImmediate Xori imm = IsUnsigned imm

-- the numbers of an instruction are in their ranges
abbrev pub InRange : Instr → Type 0
InRange (Three op rd rs rt) = (rd < 32) × (rs < 32) × (rt < 32)
InRange (Shift op rd rt sh) = (rd < 32) × (rt < 32) × (sh < 32)
InRange (ShiftReg op rd rt rs) = (rd < 32) × (rt < 32) × (rs < 32)
InRange (Jr rs) = rs < 32
InRange (Jalr rd rs) = (rd < 32) × (rs < 32)
InRange Syscall = Unit {0}
InRange (MoveFrom op rd) = rd < 32
InRange (MoveTo op rs) = rs < 32
InRange (MulDiv op rs rt) = (rs < 32) × (rt < 32)
InRange (Imm op rt rs imm) = (rt < 32) × (rs < 32) × IsImmediate op imm
InRange (Lui rt imm) = (rt < 32) × IsUnsigned imm
InRange (BranchTwo op rs rt imm) = (rs < 32) × (rt < 32) × IsSigned imm
InRange (BranchOne op rs imm) = (rs < 32) × IsSigned imm
InRange (Jump op index) = index < 2 ^ 26
InRange (Mem op rt rs imm) = (rt < 32) × (rs < 32) × IsSigned imm

-- Worked examples, as an assembler writes them: addi $t0, $zero, -1; sll $t0, $t0, 2; lw $a0, -4($fp); bgez $t0, 3.
addi : word_of (Imm Addi T0 ZERO (negsuc 0)) ≡ 0x2008ffff
addi = refl

sll : word_of (Shift Sll T0 T0 2) ≡ 0x00084080
sll = refl

lw : word_of (Mem Lw A0 FP (negsuc 3)) ≡ 0x8fc4fffc
lw = refl

bgez : word_of (BranchOne Bgez T0 (pos 3)) ≡ 0x05010003
bgez = refl
