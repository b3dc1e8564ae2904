-- If the fields of an instruction are in range, its encoding as a 32-bit word is decoded to this instruction.
use Rattle.std.specs.Prelude.{◌≡◌, ℕ, ◌+◌, ◌-◌, ◌*◌, ◌/◌, ◌%◌, ◌<◌, ℤ, pos, negsuc, Option, Some, None, refl}
use Rattle.std.proofs.Common.{◌∙◌, ap, arith}
use Rattle.mips_isa.specs.declared.instr.Instr.{Instr}
use Rattle.mips_isa.specs.declared.instr.Instr.TheVariants.{Three, Shift, ShiftReg, Jr, Jalr, Syscall, MoveFrom, MoveTo, MulDiv, Imm, Lui, BranchTwo, BranchOne, Jump, Mem}
use Rattle.mips_isa.specs.declared.instr.ThreeOp.{ThreeOp}
use Rattle.mips_isa.specs.declared.instr.ThreeOp.TheVariants.{Add}
use Rattle.mips_isa.specs.declared.instr.ShiftOp.{ShiftOp}
use Rattle.mips_isa.specs.declared.instr.ShiftOp.TheVariants.{Sll}
use Rattle.mips_isa.specs.declared.instr.ShiftRegOp.{ShiftRegOp}
use Rattle.mips_isa.specs.declared.instr.ShiftRegOp.TheVariants.{Sllv}
use Rattle.mips_isa.specs.declared.instr.FromOp.{FromOp}
use Rattle.mips_isa.specs.declared.instr.FromOp.TheVariants.{Mfhi}
use Rattle.mips_isa.specs.declared.instr.ToOp.{ToOp}
use Rattle.mips_isa.specs.declared.instr.ToOp.TheVariants.{Mthi}
use Rattle.mips_isa.specs.declared.instr.MulDivOp.{MulDivOp}
use Rattle.mips_isa.specs.declared.instr.MulDivOp.TheVariants.{Mult}
use Rattle.mips_isa.specs.declared.instr.ImmOp.{ImmOp}
use Rattle.mips_isa.specs.declared.instr.ImmOp.TheVariants.{Addi, Addiu, Slti, Sltiu}
use Rattle.mips_isa.specs.declared.instr.TwoOp.{TwoOp}
use Rattle.mips_isa.specs.declared.instr.TwoOp.TheVariants.{Beq}
use Rattle.mips_isa.specs.declared.instr.OneOp.{OneOp}
use Rattle.mips_isa.specs.declared.instr.OneOp.TheVariants.{Blez}
use Rattle.mips_isa.specs.declared.instr.JumpOp.{JumpOp}
use Rattle.mips_isa.specs.declared.instr.JumpOp.TheVariants.{J}
use Rattle.mips_isa.specs.declared.instr.MemOp.{MemOp}
use Rattle.mips_isa.specs.declared.instr.MemOp.TheVariants.{Lb}
use Rattle.mips_isa.specs.Words.{fields, special, half_of, three_number, shift_number, shift_reg_number, from_number, to_number, mul_div_number, imm_number, two_number, one_number, one_rt, jump_number, mem_number, word_of, IsSigned, IsUnsigned, IsImmediate, InRange}
use Rattle.mips_isa.specs.Decoding.{signed_half, immediate, special_at, row, decoded}

-- a word is decoded by the row of its fields
decoded_is : (word op rs rt rd sh fn imm index : ℕ) → word / 67108864 ≡ op → word / 2097152 % 32 ≡ rs → word / 65536 % 32 ≡ rt → word / 2048 % 32 ≡ rd → word / 64 % 32 ≡ sh → word % 64 ≡ fn → word % 65536 ≡ imm → word % 67108864 ≡ index → decoded word ≡ row op rs rt rd sh fn imm index
unfolding decoded
decoded_is word op rs rt rd sh fn imm index a b c d e f g h = rw (a, b, c, d, e, f, g, h)

-- a word with op 0 is decoded by its row
special_decoded : (rs rt rd sh fn : ℕ) (o : Option Instr) → rs < 32 → rt < 32 → rd < 32 → sh < 32 → fn < 64 → special_at rs rt rd sh fn ≡ o → decoded (special rs rt rd sh fn) ≡ o
special_decoded rs rt rd sh fn o a b c d e same =
    decoded_is (special rs rt rd sh fn) 0 rs rt rd sh fn
    (rd * 2048 + sh * 64 + fn) (rs * 2097152 + rt * 65536 + rd * 2048 + sh * 64 + fn)
    (omega arith) (omega arith) (omega arith) (omega arith) (omega arith) (omega arith) (omega arith) (omega arith)
    ∙ same

-- a word with an immediate is decoded by its row
half_decoded : (op rs rt half : ℕ) (o : Option Instr) → op < 64 → rs < 32 → rt < 32 → half < 65536 → ((rd sh fn index : ℕ) → row op rs rt rd sh fn half index ≡ o) → decoded (fields op rs rt half) ≡ o
half_decoded op rs rt half o a b c d same =
    decoded_is (fields op rs rt half) op rs rt (half / 2048) (half / 64 % 32) (half % 64) half (rs * 2097152 + rt * 65536 + half)
    (omega arith) (omega arith) (omega arith) (omega arith) (omega arith) (omega arith) (omega arith) (omega arith)
    ∙ same (half / 2048) (half / 64 % 32) (half % 64) (rs * 2097152 + rt * 65536 + half)

-- a word with an index is decoded by its row
index_decoded : (op index : ℕ) (o : Option Instr) → op < 64 → index < 67108864 → ((rs rt rd sh fn imm : ℕ) → row op rs rt rd sh fn imm index ≡ o) → decoded (op * 67108864 + index) ≡ o
index_decoded op index o a b same =
    decoded_is (op * 67108864 + index) op (index / 2097152) (index / 65536 % 32) (index / 2048 % 32) (index / 64 % 32) (index % 64) (index % 65536) index
    (omega arith) (omega arith) (omega arith) (omega arith) (omega arith) (omega arith) (omega arith) (omega arith)
    ∙ same (index / 2097152) (index / 65536 % 32) (index / 2048 % 32) (index / 64 % 32) (index % 64) (index % 65536)

-- a number that is not negative is its lower half, as signed
signed_pos : (n : ℕ) → n < 32768 → signed_half (n % 65536) ≡ pos n
signed_pos n small = grind arith

-- a negative number is its lower half, as signed
signed_negsuc : (n : ℕ) → n < 32768 → signed_half ((4294967295 - n) % 65536) ≡ negsuc n
signed_negsuc n small = grind arith

-- the lower half of an immediate that is extended by its sign
signed_half-half_of : (imm : ℤ) → IsSigned imm → signed_half (half_of imm) ≡ imm
signed_half-half_of (pos n) small = signed_pos n small
signed_half-half_of (negsuc n) small = signed_negsuc n small

-- the lower half of an immediate that is extended by zeros
pos-half_of : (imm : ℤ) → IsUnsigned imm → pos (half_of imm) ≡ imm
pos-half_of (pos n) small = ap pos (omega arith)
pos-half_of (negsuc n) small = absurd small

-- the lower half of an immediate, as the operation extends it
immediate-half_of : (op : ImmOp) (imm : ℤ) → IsImmediate op imm → immediate op (half_of imm) ≡ imm
immediate-half_of Addi imm small = signed_half-half_of imm small
immediate-half_of Addiu imm small = signed_half-half_of imm small
immediate-half_of Slti imm small = signed_half-half_of imm small
immediate-half_of Sltiu imm small = signed_half-half_of imm small
immediate-half_of op imm small = pos-half_of imm small

-- the row of an operation on three registers
three_row : (op : ThreeOp) (rs rt rd : ℕ) → special_at rs rt rd 0 (three_number op) ≡ Some (Three op rd rs rt)
three_row Add rs rt rd = refl
three_row op rs rt rd = refl

-- the number of an operation on three registers fits its field
three_small : (op : ThreeOp) → three_number op < 64
three_small Add = omega arith
three_small op = omega arith

-- the row of a shift by a number
shift_row : (op : ShiftOp) (rt rd sh : ℕ) → special_at 0 rt rd sh (shift_number op) ≡ Some (Shift op rd rt sh)
shift_row Sll rt rd sh = refl
shift_row op rt rd sh = refl

-- the number of a shift by a number fits its field
shift_small : (op : ShiftOp) → shift_number op < 64
shift_small Sll = omega arith
shift_small op = omega arith

-- the row of a shift by a register
shift_reg_row : (op : ShiftRegOp) (rs rt rd : ℕ) → special_at rs rt rd 0 (shift_reg_number op) ≡ Some (ShiftReg op rd rt rs)
shift_reg_row Sllv rs rt rd = refl
shift_reg_row op rs rt rd = refl

-- the number of a shift by a register fits its field
shift_reg_small : (op : ShiftRegOp) → shift_reg_number op < 64
shift_reg_small Sllv = omega arith
shift_reg_small op = omega arith

-- the row of an operation with an immediate
imm_row : (op : ImmOp) (rs rt half : ℕ) (rd sh fn index : ℕ) → row (imm_number op) rs rt rd sh fn half index ≡ Some (Imm op rt rs (immediate op half))
imm_row Addi rs rt half rd sh fn index = refl
imm_row op rs rt half rd sh fn index = refl

-- the number of an operation with an immediate fits its field
imm_small : (op : ImmOp) → imm_number op < 64
imm_small Addi = omega arith
imm_small op = omega arith

-- the row of a move from HI or LO
from_row : (op : FromOp) (rd : ℕ) → special_at 0 0 rd 0 (from_number op) ≡ Some (MoveFrom op rd)
from_row Mfhi rd = refl
from_row op rd = refl

-- the number of a move from HI or LO fits its field
from_small : (op : FromOp) → from_number op < 64
from_small Mfhi = omega arith
from_small op = omega arith

-- the row of a move to HI or LO
to_row : (op : ToOp) (rs : ℕ) → special_at rs 0 0 0 (to_number op) ≡ Some (MoveTo op rs)
to_row Mthi rs = refl
to_row op rs = refl

-- the number of a move to HI or LO fits its field
to_small : (op : ToOp) → to_number op < 64
to_small Mthi = omega arith
to_small op = omega arith

-- the row of a product or a quotient
mul_div_row : (op : MulDivOp) (rs rt : ℕ) → special_at rs rt 0 0 (mul_div_number op) ≡ Some (MulDiv op rs rt)
mul_div_row Mult rs rt = refl
mul_div_row op rs rt = refl

-- the number of a product or a quotient fits its field
mul_div_small : (op : MulDivOp) → mul_div_number op < 64
mul_div_small Mult = omega arith
mul_div_small op = omega arith

-- the row of a branch on two registers
two_row : (op : TwoOp) (rs rt half : ℕ) (rd sh fn index : ℕ) → row (two_number op) rs rt rd sh fn half index ≡ Some (BranchTwo op rs rt (signed_half half))
two_row Beq rs rt half rd sh fn index = refl
two_row op rs rt half rd sh fn index = refl

-- the number of a branch on two registers fits its field
two_small : (op : TwoOp) → two_number op < 64
two_small Beq = omega arith
two_small op = omega arith

-- the row of a branch on one register
one_row : (op : OneOp) (rs half : ℕ) (rd sh fn index : ℕ) → row (one_number op) rs (one_rt op) rd sh fn half index ≡ Some (BranchOne op rs (signed_half half))
one_row Blez rs half rd sh fn index = refl
one_row op rs half rd sh fn index = refl

-- the numbers of a branch on one register fit their fields
one_small : (op : OneOp) → (one_number op < 64) × (one_rt op < 32)
one_small Blez = omega arith
one_small op = omega arith

-- the row of a jump
jump_row : (op : JumpOp) (index : ℕ) (rs rt rd sh fn imm : ℕ) → row (jump_number op) rs rt rd sh fn imm index ≡ Some (Jump op index)
jump_row J index rs rt rd sh fn imm = refl
jump_row op index rs rt rd sh fn imm = refl

-- the number of a jump fits its field
jump_small : (op : JumpOp) → jump_number op < 64
jump_small J = omega arith
jump_small op = omega arith

-- the row of a load or a store
mem_row : (op : MemOp) (rs rt half : ℕ) (rd sh fn index : ℕ) → row (mem_number op) rs rt rd sh fn half index ≡ Some (Mem op rt rs (signed_half half))
mem_row Lb rs rt half rd sh fn index = refl
mem_row op rs rt half rd sh fn index = refl

-- the number of a load or a store fits its field
mem_small : (op : MemOp) → mem_number op < 64
mem_small Lb = omega arith
mem_small op = omega arith

-- the word of an instruction in range is decoded to that instruction
pub decoded-word_of : (i : Instr) → InRange i → decoded (word_of i) ≡ Some i
decoded-word_of (Three op rd rs rt) h =
    special_decoded rs rt rd 0 (three_number op) _ h.1 h.2 h.0 (omega arith) (three_small op) (three_row op rs rt rd)
decoded-word_of (Shift op rd rt sh) h =
    special_decoded 0 rt rd sh (shift_number op) _ (omega arith) h.1 h.0 h.2 (shift_small op) (shift_row op rt rd sh)
decoded-word_of (ShiftReg op rd rt rs) h =
    special_decoded rs rt rd 0 (shift_reg_number op) _ h.2 h.1 h.0 (omega arith) (shift_reg_small op) (shift_reg_row op rs rt rd)
decoded-word_of (Jr rs) h =
    special_decoded rs 0 0 0 8 _ h (omega arith) (omega arith) (omega arith) (omega arith) refl
decoded-word_of (Jalr rd rs) h =
    special_decoded rs 0 rd 0 9 _ h.1 (omega arith) h.0 (omega arith) (omega arith) refl
decoded-word_of Syscall h = special_decoded 0 0 0 0 12 _ (omega arith) (omega arith) (omega arith) (omega arith) (omega arith) refl
decoded-word_of (MoveFrom op rd) h =
    special_decoded 0 0 rd 0 (from_number op) _ (omega arith) (omega arith) h (omega arith) (from_small op) (from_row op rd)
decoded-word_of (MoveTo op rs) h =
    special_decoded rs 0 0 0 (to_number op) _ h (omega arith) (omega arith) (omega arith) (to_small op) (to_row op rs)
decoded-word_of (MulDiv op rs rt) h =
    special_decoded rs rt 0 0 (mul_div_number op) _ h.0 h.1 (omega arith) (omega arith) (mul_div_small op) (mul_div_row op rs rt)
decoded-word_of (Imm op rt rs imm) h =
    half_decoded (imm_number op) rs rt (half_of imm) _ (imm_small op) h.1 h.0 (omega arith) (imm_row op rs rt (half_of imm))
    ∙ ap (λ n. Some (Imm op rt rs n)) (immediate-half_of op imm h.2)
decoded-word_of (Lui rt imm) h =
    half_decoded 15 0 rt (half_of imm) _ (omega arith) (omega arith) h.0 (omega arith) (λ rd sh fn index. refl)
    ∙ ap (λ n. Some (Lui rt n)) (pos-half_of imm h.1)
decoded-word_of (BranchTwo op rs rt imm) h =
    half_decoded (two_number op) rs rt (half_of imm) _ (two_small op) h.0 h.1 (omega arith) (two_row op rs rt (half_of imm))
    ∙ ap (λ n. Some (BranchTwo op rs rt n)) (signed_half-half_of imm h.2)
decoded-word_of (BranchOne op rs imm) h =
    half_decoded (one_number op) rs (one_rt op) (half_of imm) _ (one_small op).0 h.0 (one_small op).1 (omega arith) (one_row op rs (half_of imm))
    ∙ ap (λ n. Some (BranchOne op rs n)) (signed_half-half_of imm h.1)
decoded-word_of (Jump op index) h =
    index_decoded (jump_number op) index _ (jump_small op) h (jump_row op index)
decoded-word_of (Mem op rt rs imm) h =
    half_decoded (mem_number op) rs rt (half_of imm) _ (mem_small op) h.1 h.0 (omega arith) (mem_row op rs rt (half_of imm))
    ∙ ap (λ n. Some (Mem op rt rs n)) (signed_half-half_of imm h.2)

-- no instruction in range has a word that is not decoded
pub not_a_word : (word : ℕ) (i : Instr) → decoded word ≡ None → InRange i → word_of i ≡ word → ⊥
not_a_word word i none range same =
    let some : decoded (word_of i) ≡ Some i = decoded-word_of i range in
    let moved : decoded (word_of i) ≡ decoded word = ap decoded same in
    cc
