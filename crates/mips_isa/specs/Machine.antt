-- `step` defines the execution of one instruction of the integer R2000 (a MIPS processor) on the machine's registers and memory. Registers and bytes are
-- functions of their numbers and addresses; a word of either has 32 bits.
use Rattle.std.specs.Prelude.{◌≡◌, refl, ℕ, ◌+◌, ◌-◌, ◌*◌, ◌/◌, ◌%◌, ◌^◌, ℤ, negsuc, Bool, ◌&&◌, ◌||◌, ◌==◌, not, nat_le, nat_lt, if◌then◌else◌, List, get_or, Option, Some, None}
use Rattle.std.specs.Int.Bits.{bit_and, bit_or, bit_xor}
use Rattle.mips_isa.specs.declared.instr.Instr.{Instr}
use Rattle.mips_isa.specs.declared.instr.Instr.TheVariants.{Three, Shift, ShiftReg, Jr, Jalr, Syscall, MoveFrom, MoveTo, MulDiv, Imm, Lui, BranchTwo, BranchOne, Jump, Mem}
use Rattle.mips_isa.specs.declared.instr.ThreeOp.{ThreeOp}
use Rattle.mips_isa.specs.declared.instr.ThreeOp.TheVariants.{Add, Addu, Sub, Subu, And, Or, Xor, Nor, Slt, Sltu}
use Rattle.mips_isa.specs.declared.instr.ShiftOp.{ShiftOp}
use Rattle.mips_isa.specs.declared.instr.ShiftOp.TheVariants.{Sll, Srl, Sra}
use Rattle.mips_isa.specs.declared.instr.ShiftRegOp.{ShiftRegOp}
use Rattle.mips_isa.specs.declared.instr.ShiftRegOp.TheVariants.{Sllv, Srlv, Srav}
use Rattle.mips_isa.specs.declared.instr.FromOp.TheVariants.{Mfhi, Mflo}
use Rattle.mips_isa.specs.declared.instr.ToOp.TheVariants.{Mthi, Mtlo}
use Rattle.mips_isa.specs.declared.instr.MulDivOp.{MulDivOp}
use Rattle.mips_isa.specs.declared.instr.MulDivOp.TheVariants.{Mult, Multu, Div, Divu}
use Rattle.mips_isa.specs.declared.instr.ImmOp.{ImmOp}
use Rattle.mips_isa.specs.declared.instr.ImmOp.TheVariants.{Addi, Addiu, Slti, Sltiu, Andi, Ori, Xori}
use Rattle.mips_isa.specs.declared.instr.TwoOp.{TwoOp}
use Rattle.mips_isa.specs.declared.instr.TwoOp.TheVariants.{Beq, Bne}
use Rattle.mips_isa.specs.declared.instr.OneOp.{OneOp}
use Rattle.mips_isa.specs.declared.instr.OneOp.TheVariants.{Blez, Bgtz, Bltz, Bgez}
use Rattle.mips_isa.specs.declared.instr.JumpOp.TheVariants.{J, Jal}
use Rattle.mips_isa.specs.declared.instr.MemOp.{MemOp}
use Rattle.mips_isa.specs.declared.instr.MemOp.TheVariants.{Lb, Lh, Lw, Lbu, Lhu, Sb, Sh, Sw}
use Rattle.mips_isa.specs.declared.register.TheConstants.{ZERO, RA}
use Rattle.mips_isa.specs.declared.trap.Trap.{Trap}
use Rattle.mips_isa.specs.declared.trap.TrapKind.TheVariants.{BadAddress, Unaligned, Overflow, NoInstruction}
use Rattle.mips_isa.specs.Words.{bits_of}
use Rattle.mips_isa.specs.Decoding.{decoded}
use Rattle.mips_isa.specs.declared.address_map.TheConstants.{TEXT_START}
use Rattle.mips_isa.specs.Bytes.{Bytes, half, word, set_byte, set_half, set_word, Segments, readable, writable, lies}

-- Registers

abbrev pub Registers : Type 0
Registers = ℕ → ℕ

-- $zero stays 0
abbrev pub set_register : Registers → ℕ → ℕ → Registers
set_register r k v = λ q. if q == k then (if k == ZERO then 0 else v) else r q

-- Numbers of 32 bits

abbrev pub wrap : ℕ → ℕ
wrap n = n % 2 ^ 32

abbrev pub is_negative : ℕ → Bool
is_negative a = nat_le (2 ^ 31) a

-- a signed number, moved up by 2 ^ 31, so that the order of the signed numbers is that of these
abbrev pub lifted : ℕ → ℕ
lifted a = wrap (a + 2 ^ 31)

-- the lifted sum and difference of two signed numbers, moved up once more, and whether the number behind one has 32 bits
abbrev pub fits : ℕ → Bool
fits n = nat_le (2 ^ 31) n && nat_lt n (2 ^ 31 + 2 ^ 32)

abbrev pub unless_overflow : Bool → ℕ → Option ℕ
unless_overflow fit n = if fit then Some (wrap n) else None

abbrev pub signed_sum : ℕ → ℕ → Option ℕ
signed_sum a b = unless_overflow (fits (lifted a + lifted b)) (a + b)

abbrev pub signed_difference : ℕ → ℕ → Option ℕ
signed_difference a b = unless_overflow (fits (lifted a + 2 ^ 32 - lifted b)) (a + 2 ^ 32 - b)

abbrev pub flag : Bool → ℕ
flag b = if b then 1 else 0

-- the result of an operation on two numbers; there is none where it overflows
abbrev pub three_result : ThreeOp → ℕ → ℕ → Option ℕ
three_result Add a b = signed_sum a b
three_result Addu a b = Some (wrap (a + b))
three_result Sub a b = signed_difference a b
three_result Subu a b = Some (wrap (a + 2 ^ 32 - b))
three_result And a b = Some (bit_and a b)
three_result Or a b = Some (bit_or a b)
three_result Xor a b = Some (bit_xor a b)
three_result Nor a b = Some (2 ^ 32 - 1 - bit_or a b)
three_result Slt a b = Some (flag (nat_lt (lifted a) (lifted b)))
three_result Sltu a b = Some (flag (nat_lt a b))

abbrev pub imm_result : ImmOp → ℕ → ℕ → Option ℕ
imm_result Addi a n = signed_sum a n
imm_result Addiu a n = Some (wrap (a + n))
imm_result Slti a n = Some (flag (nat_lt (lifted a) (lifted n)))
imm_result Sltiu a n = Some (flag (nat_lt a n))
imm_result Andi a n = Some (bit_and a n)
imm_result Ori a n = Some (bit_or a n)
imm_result Xori a n = Some (bit_xor a n)

-- shifts to the left, to the right with zeros, and to the right with the sign
abbrev pub shift_result : ShiftOp → ℕ → ℕ → ℕ
shift_result Sll a k = wrap (a * 2 ^ k)
shift_result Srl a k = a / 2 ^ k
shift_result Sra a k = if is_negative a then 2 ^ 32 - 1 - (2 ^ 32 - 1 - a) / 2 ^ k else a / 2 ^ k

abbrev pub shift_of : ShiftRegOp → ShiftOp
shift_of Sllv = Sll
shift_of Srlv = Srl
shift_of Srav = Sra

-- a signed number as one of 64 bits
abbrev pub long : ℕ → ℕ
long a = if is_negative a then a + (2 ^ 64 - 2 ^ 32) else a

abbrev pub magnitude : ℕ → ℕ
magnitude a = if is_negative a then 2 ^ 32 - a else a

-- a number of this magnitude
abbrev pub with_sign : Bool → ℕ → ℕ
with_sign negative n = if negative then wrap (2 ^ 32 - n) else n

-- the quotient is truncated toward zero, and the remainder has the sign of the dividend
abbrev pub have_two_signs : ℕ → ℕ → Bool
have_two_signs a b = if is_negative a then not (is_negative b) else is_negative b

abbrev pub signed_quotient : ℕ → ℕ → ℕ
signed_quotient a b = with_sign (have_two_signs a b) (magnitude a / magnitude b)

abbrev pub signed_remainder : ℕ → ℕ → ℕ
signed_remainder a b = with_sign (is_negative a) (magnitude a % magnitude b)

abbrev pub two_result : TwoOp → ℕ → ℕ → Bool
two_result Beq a b = a == b
two_result Bne a b = not (a == b)

-- whether a signed number is below 0, or 0
abbrev pub one_result : OneOp → ℕ → Bool
one_result Blez a = is_negative a || a == 0
one_result Bgtz a = not (is_negative a || a == 0)
one_result Bltz a = is_negative a
one_result Bgez a = not (is_negative a)

-- a byte and a half, extended by sign
abbrev pub signed_byte : ℕ → ℕ
signed_byte n = if nat_lt n 128 then n else n + (2 ^ 32 - 2 ^ 8)

abbrev pub signed_half : ℕ → ℕ
signed_half n = if nat_lt n 32768 then n else n + (2 ^ 32 - 2 ^ 16)

-- The state, without the console.
pub record Core : Type 0 where
  pub registers : Registers
  pub hi : ℕ
  pub lo : ℕ
  pub pc : ℕ
  pub memory : Bytes

-- The result of an instruction: the next state, the next state and a system call, or a trap.
pub data Next : Type 0 where
  On : Core → Next
  Call : Core → Next
  Stop : Trap → Next

-- the next instruction, with this value in a register
abbrev pub put : Core → ℕ → ℕ → Next
put s k v = On (record s { registers = set_register s.registers k v; pc = s.pc + 4 })

abbrev pub put_or_overflow : Core → ℕ → Option ℕ → Next
put_or_overflow s k None = Stop (record { kind = Overflow; address = s.pc; pc = s.pc })
put_or_overflow s k (Some v) = put s k v

abbrev pub go_to : Core → ℕ → Next
go_to s a = On (record s { pc = a })

abbrev pub go_to_with_return : Core → ℕ → ℕ → Next
go_to_with_return s k a = On (record s { registers = set_register s.registers k (s.pc + 4); pc = a })

abbrev pub put_hi_lo : Core → ℕ → ℕ → Next
put_hi_lo s hi lo = On (record s { hi = hi; lo = lo; pc = s.pc + 4 })

-- HI and LO after a multiplication or a division; a divisor 0 leaves both
abbrev pub mul_div : MulDivOp → Core → ℕ → ℕ → Next
mul_div Mult s a b = put_hi_lo s (long a * long b % 2 ^ 64 / 2 ^ 32) (wrap (long a * long b))
mul_div Multu s a b = put_hi_lo s (a * b / 2 ^ 32) (wrap (a * b))
mul_div Div s a b = if b == 0 then put_hi_lo s s.hi s.lo else put_hi_lo s (signed_remainder a b) (signed_quotient a b)
mul_div Divu s a b = if b == 0 then put_hi_lo s s.hi s.lo else put_hi_lo s (a % b) (a / b)

-- a branch counts from the next instruction
abbrev pub branch : Core → Bool → ℤ → Next
branch s taken imm = if taken then go_to s (wrap (s.pc + 4 + 4 * bits_of imm)) else go_to s (s.pc + 4)

-- a jump keeps the upper four bits of the next instruction's address
abbrev pub jump_target : ℕ → ℕ → ℕ
jump_target pc index = (pc + 4) / 2 ^ 28 * 2 ^ 28 + 4 * index

-- an access of this size at a, which traps where a is no multiple of the size, or where it may not be
abbrev pub access : ℕ → Bool → ℕ → ℕ → Next → Next
access size may pc a next =
    if not (a % size == 0) then Stop (record { kind = Unaligned; address = a; pc = pc })
    else (if not may then Stop (record { kind = BadAddress; address = a; pc = pc }) else next)

abbrev pub load : Segments → ℕ → Core → ℕ → ℕ → ℕ → Next
load b size s k a v = access size (readable b a size) s.pc a (put s k v)

abbrev pub store : Segments → ℕ → Core → ℕ → Bytes → Next
store b size s a m = access size (writable b a size) s.pc a (On (record s { pc = s.pc + 4; memory = m }))

abbrev pub mem : Segments → MemOp → Core → ℕ → ℕ → Next
mem b Lb s k a = load b 1 s k a (signed_byte (s.memory a))
mem b Lh s k a = load b 2 s k a (signed_half (half s.memory a))
mem b Lw s k a = load b 4 s k a (word s.memory a)
mem b Lbu s k a = load b 1 s k a (s.memory a)
mem b Lhu s k a = load b 2 s k a (half s.memory a)
mem b Sb s k a = store b 1 s a (set_byte s.memory a (s.registers k % 256))
mem b Sh s k a = store b 2 s a (set_half s.memory a (s.registers k % 65536))
mem b Sw s k a = store b 4 s a (set_word s.memory a (s.registers k))

-- one case for each row of the instruction table
abbrev pub act : Segments → Instr → Core → Next
act b (Three op rd rs rt) s = put_or_overflow s rd (three_result op (s.registers rs) (s.registers rt))
act b (Shift op rd rt sh) s = put s rd (shift_result op (s.registers rt) sh)
act b (ShiftReg op rd rt rs) s = put s rd (shift_result (shift_of op) (s.registers rt) (s.registers rs % 32))
act b (Jr rs) s = go_to s (s.registers rs)
act b (Jalr rd rs) s = go_to_with_return s rd (s.registers rs)
act b Syscall s = Call (record s { pc = s.pc + 4 })
act b (MoveFrom Mfhi rd) s = put s rd s.hi
act b (MoveFrom Mflo rd) s = put s rd s.lo
act b (MoveTo Mthi rs) s = put_hi_lo s (s.registers rs) s.lo
act b (MoveTo Mtlo rs) s = put_hi_lo s s.hi (s.registers rs)
act b (MulDiv op rs rt) s = mul_div op s (s.registers rs) (s.registers rt)
act b (Imm op rt rs imm) s = put_or_overflow s rt (imm_result op (s.registers rs) (bits_of imm))
act b (Lui rt imm) s = put s rt (wrap (bits_of imm * 65536))
act b (BranchTwo op rs rt imm) s = branch s (two_result op (s.registers rs) (s.registers rt)) imm
act b (BranchOne op rs imm) s = branch s (one_result op (s.registers rs)) imm
act b (Jump J index) s = go_to s (jump_target s.pc index)
act b (Jump Jal index) s = go_to_with_return s RA (jump_target s.pc index)
act b (Mem op rt rs imm) s = mem b op s rt (wrap (s.registers rs + bits_of imm))

-- the word of the text at a
abbrev pub word_of_text : List ℕ → ℕ → ℕ
word_of_text text a = get_or text ((a - TEXT_START) / 4) 0

-- what the instruction at pc does, if there is one
abbrev pub act_or_none : Segments → Option Instr → Core → Next
act_or_none b None s = Stop (record { kind = NoInstruction; address = s.pc; pc = s.pc })
act_or_none b (Some i) s = act b i s

-- one instruction, fetched at pc
abbrev pub step : List ℕ → Segments → Core → Next
step text b s = access 4 (lies TEXT_START b.text_end s.pc 4) s.pc s.pc (act_or_none b (decoded (word_of_text text s.pc)) s)

-- Worked examples: signed sums at the ends of the range, a signed order against an order without signs, shifts with the sign,
-- -1 * 2, -7 / 2 and 7 / -2, and the smallest number by -1.
add_overflows : three_result Add 0x7fffffff 1 ≡ None
add_overflows = refl

add_of_signs : three_result Add 0x80000000 0x7fffffff ≡ Some 0xffffffff
add_of_signs = refl

sub_overflows : three_result Sub 0x80000000 1 ≡ None
sub_overflows = refl

addi_of_minus_one : imm_result Addi 5 (bits_of (negsuc 0)) ≡ Some 4
addi_of_minus_one = refl

slt_of_smallest : three_result Slt 0x80000000 1 ≡ Some 1
slt_of_smallest = refl

sltu_of_smallest : three_result Sltu 0x80000000 1 ≡ Some 0
sltu_of_smallest = refl

sra_of_smallest : shift_result Sra 0x80000000 31 ≡ 0xffffffff
sra_of_smallest = refl

mult_of_minus_one : wrap (long 0xffffffff * long 2) ≡ 0xfffffffe
mult_of_minus_one = refl

mult_upper : long 0xffffffff * long 2 % 2 ^ 64 / 2 ^ 32 ≡ 0xffffffff
mult_upper = refl

div_negative : signed_quotient 0xfffffff9 2 ≡ 0xfffffffd
div_negative = refl

rem_negative : signed_remainder 0xfffffff9 2 ≡ 0xffffffff
rem_negative = refl

div_by_negative : signed_quotient 7 0xfffffffe ≡ 0xfffffffd
div_by_negative = refl

rem_by_negative : signed_remainder 7 0xfffffffe ≡ 1
rem_by_negative = refl

div_smallest : signed_quotient 0x80000000 0xffffffff ≡ 0x80000000
div_smallest = refl

rem_smallest : signed_remainder 0x80000000 0xffffffff ≡ 0
rem_smallest = refl

jump_in_text : jump_target 0x00400000 0x00100004 ≡ 0x00400010
jump_in_text = refl
