-- `instr_of` gives the machine instruction of each decoded operation of the simulator, or none for a word that encodes no instruction.
use Rattle.std.specs.Prelude.{◌≡◌, refl, ℕ, ◌<◌, pos, Option, Some, None, List, length, get_or}
use Rattle.mips_isa.specs.declared.instr.Instr.{Instr}
use Rattle.mips_isa.specs.declared.instr.Instr.TheVariants.{Three, Shift, ShiftReg, Jr, Jalr, Syscall, MoveFrom, MoveTo, MulDiv, Imm, Lui, BranchTwo, BranchOne, Jump, Mem}
use Rattle.mips_isa.specs.declared.instr.ThreeOp.TheVariants as three
use Rattle.mips_isa.specs.declared.instr.ShiftOp.TheVariants as shift
use Rattle.mips_isa.specs.declared.instr.ShiftRegOp.TheVariants as shift_reg
use Rattle.mips_isa.specs.declared.instr.FromOp.TheVariants as from
use Rattle.mips_isa.specs.declared.instr.ToOp.TheVariants as to
use Rattle.mips_isa.specs.declared.instr.MulDivOp.TheVariants as mul_div
use Rattle.mips_isa.specs.declared.instr.ImmOp.TheVariants as imm
use Rattle.mips_isa.specs.declared.instr.TwoOp.TheVariants as two
use Rattle.mips_isa.specs.declared.instr.OneOp.TheVariants as one
use Rattle.mips_isa.specs.declared.instr.JumpOp.TheVariants as jump
use Rattle.mips_isa.specs.declared.instr.MemOp.TheVariants as mem
use Rattle.mips_isa.specs.declared.register.TheConstants.{ZERO, T0, T1}
use Rattle.mips_isa.specs.Decoding.{decoded}
use Rattle.spim_memory.specs.declared.operation.Operation.{Operation}
use Rattle.spim_memory.specs.declared.operation.Operation.TheVariants as row

-- `Unknown` is the operation of a word that is no instruction.
abbrev pub instr_of : Operation → Option Instr
instr_of row.Unknown = None
instr_of (row.Add rd rs rt) = Some (Three three.Add rd rs rt)
instr_of (row.Addu rd rs rt) = Some (Three three.Addu rd rs rt)
instr_of (row.Sub rd rs rt) = Some (Three three.Sub rd rs rt)
instr_of (row.Subu rd rs rt) = Some (Three three.Subu rd rs rt)
instr_of (row.And rd rs rt) = Some (Three three.And rd rs rt)
instr_of (row.Or rd rs rt) = Some (Three three.Or rd rs rt)
instr_of (row.Xor rd rs rt) = Some (Three three.Xor rd rs rt)
instr_of (row.Nor rd rs rt) = Some (Three three.Nor rd rs rt)
instr_of (row.Slt rd rs rt) = Some (Three three.Slt rd rs rt)
instr_of (row.Sltu rd rs rt) = Some (Three three.Sltu rd rs rt)
instr_of (row.Sll rd rt sh) = Some (Shift shift.Sll rd rt sh)
instr_of (row.Srl rd rt sh) = Some (Shift shift.Srl rd rt sh)
instr_of (row.Sra rd rt sh) = Some (Shift shift.Sra rd rt sh)
instr_of (row.Sllv rd rt rs) = Some (ShiftReg shift_reg.Sllv rd rt rs)
instr_of (row.Srlv rd rt rs) = Some (ShiftReg shift_reg.Srlv rd rt rs)
instr_of (row.Srav rd rt rs) = Some (ShiftReg shift_reg.Srav rd rt rs)
instr_of (row.Jr rs) = Some (Jr rs)
instr_of (row.Jalr rd rs) = Some (Jalr rd rs)
instr_of row.Syscall = Some Syscall
instr_of (row.Mfhi rd) = Some (MoveFrom from.Mfhi rd)
instr_of (row.Mflo rd) = Some (MoveFrom from.Mflo rd)
instr_of (row.Mthi rs) = Some (MoveTo to.Mthi rs)
instr_of (row.Mtlo rs) = Some (MoveTo to.Mtlo rs)
instr_of (row.Mult rs rt) = Some (MulDiv mul_div.Mult rs rt)
instr_of (row.Multu rs rt) = Some (MulDiv mul_div.Multu rs rt)
instr_of (row.Div rs rt) = Some (MulDiv mul_div.Div rs rt)
instr_of (row.Divu rs rt) = Some (MulDiv mul_div.Divu rs rt)
instr_of (row.Addi rt rs n) = Some (Imm imm.Addi rt rs n)
instr_of (row.Addiu rt rs n) = Some (Imm imm.Addiu rt rs n)
instr_of (row.Slti rt rs n) = Some (Imm imm.Slti rt rs n)
instr_of (row.Sltiu rt rs n) = Some (Imm imm.Sltiu rt rs n)
instr_of (row.Andi rt rs n) = Some (Imm imm.Andi rt rs (pos n))
instr_of (row.Ori rt rs n) = Some (Imm imm.Ori rt rs (pos n))
instr_of (row.Xori rt rs n) = Some (Imm imm.Xori rt rs (pos n))
instr_of (row.Lui rt n) = Some (Lui rt (pos n))
instr_of (row.Beq rs rt n) = Some (BranchTwo two.Beq rs rt n)
instr_of (row.Bne rs rt n) = Some (BranchTwo two.Bne rs rt n)
instr_of (row.Blez rs n) = Some (BranchOne one.Blez rs n)
instr_of (row.Bgtz rs n) = Some (BranchOne one.Bgtz rs n)
instr_of (row.Bltz rs n) = Some (BranchOne one.Bltz rs n)
instr_of (row.Bgez rs n) = Some (BranchOne one.Bgez rs n)
instr_of (row.J index) = Some (Jump jump.J index)
instr_of (row.Jal index) = Some (Jump jump.Jal index)
instr_of (row.Lb rt rs n) = Some (Mem mem.Lb rt rs n)
instr_of (row.Lh rt rs n) = Some (Mem mem.Lh rt rs n)
instr_of (row.Lw rt rs n) = Some (Mem mem.Lw rt rs n)
instr_of (row.Lbu rt rs n) = Some (Mem mem.Lbu rt rs n)
instr_of (row.Lhu rt rs n) = Some (Mem mem.Lhu rt rs n)
instr_of (row.Sb rt rs n) = Some (Mem mem.Sb rt rs n)
instr_of (row.Sh rt rs n) = Some (Mem mem.Sh rt rs n)
instr_of (row.Sw rt rs n) = Some (Mem mem.Sw rt rs n)

-- Operations are those of the first words.
abbrev pub AreOf : List Operation → List ℕ → Type 0
AreOf operations words =
    (i : ℕ) (d : Operation) → i < length operations → (i < length words) × (instr_of (get_or operations i d) ≡ decoded (get_or words i 0))

-- Worked example: or $t0, $t1, $zero.
or : instr_of (row.Or T0 T1 ZERO) ≡ decoded 0x01204025
unfolding decoded
or = refl
