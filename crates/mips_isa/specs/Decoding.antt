-- `decoded` gives the instruction that a 32-bit word encodes, by cases on its fields. `Words.antt` has the encoding table; the contract of `decode` says that
-- the result is exactly the instruction with this encoding.
use Rattle.std.specs.Prelude.{ℕ, ◌-◌, ◌/◌, ◌%◌, ◌^◌, ℤ, pos, negsuc, Bool, ◌&&◌, ◌==◌, nat_lt, if◌then◌else◌, Option, Some, None}
use Rattle.mips_isa.specs.declared.instr.Instr.{Instr}
use Rattle.mips_isa.specs.declared.instr.Instr.TheVariants.{Three, Shift, ShiftReg, Jr, Jalr, Syscall, MoveFrom, MoveTo, MulDiv, Imm, Lui, BranchTwo, BranchOne, Jump, Mem}
use Rattle.mips_isa.specs.declared.instr.ThreeOp.{ThreeOp}
use Rattle.mips_isa.specs.declared.instr.ThreeOp.TheVariants.{Add, Addu, Sub, Subu, And, Or, Xor, Nor, Slt, Sltu}
use Rattle.mips_isa.specs.declared.instr.ShiftOp.{ShiftOp}
use Rattle.mips_isa.specs.declared.instr.ShiftOp.TheVariants.{Sll, Srl, Sra}
use Rattle.mips_isa.specs.declared.instr.ShiftRegOp.{ShiftRegOp}
use Rattle.mips_isa.specs.declared.instr.ShiftRegOp.TheVariants.{Sllv, Srlv, Srav}
use Rattle.mips_isa.specs.declared.instr.FromOp.TheVariants.{Mfhi, Mflo}
use Rattle.mips_isa.specs.declared.instr.ToOp.TheVariants.{Mthi, Mtlo}
use Rattle.mips_isa.specs.declared.instr.MulDivOp.TheVariants.{Mult, Multu, Div, Divu}
use Rattle.mips_isa.specs.declared.instr.ImmOp.{ImmOp}
use Rattle.mips_isa.specs.declared.instr.ImmOp.TheVariants.{Addi, Addiu, Slti, Sltiu, Andi, Ori, Xori}
use Rattle.mips_isa.specs.declared.instr.TwoOp.TheVariants.{Beq, Bne}
use Rattle.mips_isa.specs.declared.instr.OneOp.TheVariants.{Blez, Bgtz, Bltz, Bgez}
use Rattle.mips_isa.specs.declared.instr.JumpOp.TheVariants.{J, Jal}
use Rattle.mips_isa.specs.declared.instr.MemOp.{MemOp}
use Rattle.mips_isa.specs.declared.instr.MemOp.TheVariants.{Lb, Lh, Lw, Lbu, Lhu, Sb, Sh, Sw}

-- 16 bits as a signed number
abbrev pub signed_half : ℕ → ℤ
signed_half n = if nat_lt n 32768 then pos n else negsuc (65535 - n)

-- an instruction, where the fields that it does not name are 0
abbrev pub unless_named : Bool → Instr → Option Instr
unless_named zero i = if zero then Some i else None

-- the operations by their numbers

abbrev pub three_at : ℕ → Option ThreeOp
three_at fn =
    if fn == 32 then Some Add else (if fn == 33 then Some Addu else (if fn == 34 then Some Sub else (if fn == 35 then Some Subu
    else (if fn == 36 then Some And else (if fn == 37 then Some Or else (if fn == 38 then Some Xor else (if fn == 39 then Some Nor
    else (if fn == 42 then Some Slt else (if fn == 43 then Some Sltu else None)))))))))

abbrev pub shift_at : ℕ → Option ShiftOp
shift_at fn = if fn == 0 then Some Sll else (if fn == 2 then Some Srl else (if fn == 3 then Some Sra else None))

abbrev pub shift_reg_at : ℕ → Option ShiftRegOp
shift_reg_at fn = if fn == 4 then Some Sllv else (if fn == 6 then Some Srlv else (if fn == 7 then Some Srav else None))

abbrev pub imm_at : ℕ → Option ImmOp
imm_at op =
    if op == 8 then Some Addi else (if op == 9 then Some Addiu else (if op == 10 then Some Slti else (if op == 11 then Some Sltiu
    else (if op == 12 then Some Andi else (if op == 13 then Some Ori else (if op == 14 then Some Xori else None))))))

abbrev pub mem_at : ℕ → Option MemOp
mem_at op =
    if op == 32 then Some Lb else (if op == 33 then Some Lh else (if op == 35 then Some Lw else (if op == 36 then Some Lbu
    else (if op == 37 then Some Lhu else (if op == 40 then Some Sb else (if op == 41 then Some Sh else (if op == 43 then Some Sw else None)))))))

-- an immediate of 16 bits, as the operation extends it
abbrev pub immediate : ImmOp → ℕ → ℤ
immediate Addi n = signed_half n
immediate Addiu n = signed_half n
immediate Slti n = signed_half n
immediate Sltiu n = signed_half n
immediate Andi n = pos n
immediate Ori n = pos n
immediate Xori n = pos n

-- op 0: jumps by register, system call, HI and LO
abbrev pub other_special_at : ℕ → ℕ → ℕ → ℕ → ℕ → Option Instr
other_special_at rs rt rd sh fn =
    if fn == 8 then unless_named (rt == 0 && (rd == 0 && sh == 0)) (Jr rs)
    else (if fn == 9 then unless_named (rt == 0 && sh == 0) (Jalr rd rs)
    else (if fn == 12 then unless_named (rs == 0 && (rt == 0 && (rd == 0 && sh == 0))) Syscall
    else (if fn == 16 then unless_named (rs == 0 && (rt == 0 && sh == 0)) (MoveFrom Mfhi rd)
    else (if fn == 18 then unless_named (rs == 0 && (rt == 0 && sh == 0)) (MoveFrom Mflo rd)
    else (if fn == 17 then unless_named (rt == 0 && (rd == 0 && sh == 0)) (MoveTo Mthi rs)
    else (if fn == 19 then unless_named (rt == 0 && (rd == 0 && sh == 0)) (MoveTo Mtlo rs)
    else (if fn == 24 then unless_named (rd == 0 && sh == 0) (MulDiv Mult rs rt)
    else (if fn == 25 then unless_named (rd == 0 && sh == 0) (MulDiv Multu rs rt)
    else (if fn == 26 then unless_named (rd == 0 && sh == 0) (MulDiv Div rs rt)
    else (if fn == 27 then unless_named (rd == 0 && sh == 0) (MulDiv Divu rs rt)
    else None))))))))))

-- op 0: shifts and three registers
abbrev pub shift_reg_or : Option ShiftRegOp → ℕ → ℕ → ℕ → ℕ → ℕ → Option Instr
shift_reg_or None rs rt rd sh fn = other_special_at rs rt rd sh fn
shift_reg_or (Some op) rs rt rd sh fn = unless_named (sh == 0) (ShiftReg op rd rt rs)

abbrev pub shift_or : Option ShiftOp → ℕ → ℕ → ℕ → ℕ → ℕ → Option Instr
shift_or None rs rt rd sh fn = shift_reg_or (shift_reg_at fn) rs rt rd sh fn
shift_or (Some op) rs rt rd sh fn = unless_named (rs == 0) (Shift op rd rt sh)

abbrev pub three_or : Option ThreeOp → ℕ → ℕ → ℕ → ℕ → ℕ → Option Instr
three_or None rs rt rd sh fn = shift_or (shift_at fn) rs rt rd sh fn
three_or (Some op) rs rt rd sh fn = unless_named (sh == 0) (Three op rd rs rt)

abbrev pub special_at : ℕ → ℕ → ℕ → ℕ → ℕ → Option Instr
special_at rs rt rd sh fn = three_or (three_at fn) rs rt rd sh fn

-- other ops: branches and upper immediates
abbrev pub branch_at : ℕ → ℕ → ℕ → ℕ → Option Instr
branch_at op rs rt imm =
    if op == 4 then Some (BranchTwo Beq rs rt (signed_half imm))
    else (if op == 5 then Some (BranchTwo Bne rs rt (signed_half imm))
    else (if op == 6 then unless_named (rt == 0) (BranchOne Blez rs (signed_half imm))
    else (if op == 7 then unless_named (rt == 0) (BranchOne Bgtz rs (signed_half imm))
    else (if op == 1 then (if rt == 0 then Some (BranchOne Bltz rs (signed_half imm)) else unless_named (rt == 1) (BranchOne Bgez rs (signed_half imm)))
    else (if op == 15 then unless_named (rs == 0) (Lui rt (pos imm))
    else None)))))

-- immediates, loads and stores
abbrev pub mem_or : Option MemOp → ℕ → ℕ → ℕ → ℕ → Option Instr
mem_or None op rs rt imm = branch_at op rs rt imm
mem_or (Some mem) op rs rt imm = Some (Mem mem rt rs (signed_half imm))

abbrev pub imm_or : Option ImmOp → ℕ → ℕ → ℕ → ℕ → Option Instr
imm_or None op rs rt imm = mem_or (mem_at op) op rs rt imm
imm_or (Some operation) op rs rt imm = Some (Imm operation rt rs (immediate operation imm))

abbrev pub immediate_at : ℕ → ℕ → ℕ → ℕ → Option Instr
immediate_at op rs rt imm = imm_or (imm_at op) op rs rt imm

-- the instruction of these fields
abbrev pub row : ℕ → ℕ → ℕ → ℕ → ℕ → ℕ → ℕ → ℕ → Option Instr
row op rs rt rd sh fn imm index =
    if op == 0 then special_at rs rt rd sh fn
    else (if op == 2 then Some (Jump J index)
    else (if op == 3 then Some (Jump Jal index)
    else immediate_at op rs rt imm))

-- the instruction of a word, if it is of a row
unfoldable pub decoded : ℕ → Option Instr
decoded word =
    row (word / 2 ^ 26) (word / 2 ^ 21 % 2 ^ 5) (word / 2 ^ 16 % 2 ^ 5) (word / 2 ^ 11 % 2 ^ 5) (word / 2 ^ 6 % 2 ^ 5) (word % 2 ^ 6) (word % 2 ^ 16) (word % 2 ^ 26)
