-- The machine instructions for a line of assembly depend on no label but the instruction's target, and are in range if the target is no error.
use Rattle.std.proofs.Common.{◌≡◌, refl, sym, ◌∙◌, ap, ℕ, ◌+◌, ◌/◌, ◌%◌, ◌<◌, ℤ, pos, negsuc, List, Bool, true, false, ◌&&◌, nat_lt, Option, Some, None, if◌then◌else◌, arith, lit<, subst}
use Rattle.std.specs.List.{AllByRecursion}
use Rattle.mips_isa.specs.declared.instr.Instr.{Instr}
use Rattle.mips_isa.specs.declared.place.Place.{Place}
use Rattle.mips_isa.specs.declared.instr.JumpOp.{JumpOp}
use Rattle.mips_isa.specs.declared.asm_fault.AsmKind.TheVariants.{A7}
use Rattle.mips_isa.specs.declared.line.OrderOp.{OrderOp}
use Rattle.mips_isa.specs.declared.line.OrderOp.TheVariants.{Bgt, Bge, Blt, Ble}
use Rattle.mips_isa.specs.Words.{InRange, IsSigned, bits_of}
use Rattle.mips_isa.specs.Lines.{Name, IsInstructionInRange, IsWord, AsmInstr, Plain, ToTwo, ToOne, ToJump, La, Li, Move, Neg, Nop, B, BranchZero, BranchOrder, Mul}
use Rattle.mips_isa.specs.Assembly.{expansion, address_or_zero, offset, load_address, order_branch, is_text, is_reach, branch_reaches, jump_reaches, instruction_reaches}
use Rattle.mips_asm.specs.Parts.{found, target_in, target_address, target_fault, instruction_fault}
use Rattle.std.proofs.lemmas.Bool.{ltb-true}
use Rattle.lists.proofs.TruthValues.{and_second}

address_of_found : (o : Option Place) → address_or_zero o ≡ target_address (found o)
address_of_found None = refl
address_of_found (Some p) = refl

-- the expansion of an instruction knows no other label than its target
pub expansion_of_target : (place : Name → Option Place) (at : ℕ) (s : AsmInstr) → expansion (λ name. address_or_zero (place name)) at s ≡ expansion (λ name. target_address (target_in place s)) at s
expansion_of_target place at (Plain i) = refl
expansion_of_target place at (ToTwo op rs rt target) = ap (λ a. expansion (λ name. a) at (ToTwo op rs rt target)) (address_of_found (place target))
expansion_of_target place at (ToOne op rs target) = ap (λ a. expansion (λ name. a) at (ToOne op rs target)) (address_of_found (place target))
expansion_of_target place at (ToJump op target) = ap (λ a. expansion (λ name. a) at (ToJump op target)) (address_of_found (place target))
expansion_of_target place at (La rd label) = ap (λ a. expansion (λ name. a) at (La rd label)) (address_of_found (place label))
expansion_of_target place at (Li rd value) = refl
expansion_of_target place at (Move rd rs) = refl
expansion_of_target place at (Neg rd rs) = refl
expansion_of_target place at Nop = refl
expansion_of_target place at (B target) = ap (λ a. expansion (λ name. a) at (B target)) (address_of_found (place target))
expansion_of_target place at (BranchZero op rs target) = ap (λ a. expansion (λ name. a) at (BranchZero op rs target)) (address_of_found (place target))
expansion_of_target place at (BranchOrder op rs rt target) = ap (λ a. expansion (λ name. a) at (BranchOrder op rs rt target)) (address_of_found (place target))
expansion_of_target place at (Mul rd rs rt) = refl

signed_of_reach : (z : ℤ) → is_reach z ≡ true → IsSigned z
signed_of_reach (pos n) e = ltb-true n 32768 e
signed_of_reach (negsuc n) e = ltb-true n 32768 e

passes : (b : Bool) → (if b then None else Some A7) ≡ None → b ≡ true
passes true e = refl
passes false e = cc

-- a branch with no fault has an offset in range
near : (at from : ℕ) (s : AsmInstr) (o : Option Place) → ((p : Place) → instruction_reaches (λ name. Some p) at s ≡ branch_reaches from (Some p)) → target_fault at s (found o) ≡ None → IsSigned (offset from (target_address (found o)))
near at from s None same e = cc
near at from s (Some p) same e =
    signed_of_reach (offset from p.address) (and_second (is_text p.segment) (is_reach (offset from p.address)) (sym (same p) ∙ passes (instruction_reaches (λ name. Some p) at s) e))

-- the index of a jump with no fault is in range
low : (at : ℕ) (op : JumpOp) (name : Name) (o : Option Place) → target_fault at (ToJump op name) (found o) ≡ None → target_address (found o) / 4 < 67108864
low at op name None e = cc
low at op name (Some p) e =
    let below : p.address < 268435456 = ltb-true p.address 268435456 (and_second (is_text p.segment) (nat_lt p.address 268435456) (passes (jump_reaches (Some p)) e)) in
    omega arith

bits_below : (z : ℤ) → IsWord z → bits_of z < 4294967296
bits_below (pos n) h = h
bits_below (negsuc n) h = omega arith

loads : (rd n : ℕ) → rd < 32 → n < 4294967296 → AllByRecursion InRange (load_address rd n)
loads rd n r h =
    let high : n / 65536 < 65536 = omega arith in
    let rest : n % 65536 < 65536 = omega arith in
    ((r, high), ((r, r, rest), tt))

orders : (op : OrderOp) (rs rt : ℕ) (imm : ℤ) → rs < 32 → rt < 32 → IsSigned imm → AllByRecursion InRange (order_branch op rs rt imm)
orders Bgt rs rt imm s t h = ((lit< tt, t, s), ((lit< tt, lit< tt, h), tt))
orders Bge rs rt imm s t h = ((lit< tt, s, t), ((lit< tt, lit< tt, h), tt))
orders Blt rs rt imm s t h = ((lit< tt, s, t), ((lit< tt, lit< tt, h), tt))
orders Ble rs rt imm s t h = ((lit< tt, t, s), ((lit< tt, lit< tt, h), tt))

-- the expansion of an instruction with no fault is in range
pub instruction_in_range : (place : Name → Option Place) (at : ℕ) (s : AsmInstr) → IsInstructionInRange s → instruction_fault place at s ≡ None → target_address (target_in place s) < 4294967296 → AllByRecursion InRange (expansion (λ name. target_address (target_in place s)) at s)
instruction_in_range place at (Plain i) r e h = (r, tt)
instruction_in_range place at (ToTwo op rs rt target) r e h = ((r.0, r.1, near at at (ToTwo op rs rt target) (place target) (λ p. refl) e), tt)
instruction_in_range place at (ToOne op rs target) r e h = ((r, near at at (ToOne op rs target) (place target) (λ p. refl) e), tt)
instruction_in_range place at (ToJump op target) r e h = (low at op target (place target) e, tt)
instruction_in_range place at (La rd label) r e h = loads rd (target_address (found (place label))) r h
instruction_in_range place at (Li rd value) r e h = loads rd (bits_of value) r.0 (bits_below value r.1)
instruction_in_range place at (Move rd rs) r e h = ((r.0, r.1, lit< tt), tt)
instruction_in_range place at (Neg rd rs) r e h = ((r.0, lit< tt, r.1), tt)
instruction_in_range place at Nop r e h = ((lit< tt, lit< tt, lit< tt), tt)
instruction_in_range place at (B target) r e h = ((lit< tt, lit< tt, near at at (B target) (place target) (λ p. refl) e), tt)
instruction_in_range place at (BranchZero op rs target) r e h = ((r, lit< tt, near at at (BranchZero op rs target) (place target) (λ p. refl) e), tt)
instruction_in_range place at (BranchOrder op rs rt target) r e h =
    orders op rs rt (offset (at + 4) (target_address (found (place target)))) r.0 r.1 (near at (at + 4) (BranchOrder op rs rt target) (place target) (λ p. refl) e)
instruction_in_range place at (Mul rd rs rt) r e h = ((r.1, r.2), (r.0, tt))

-- the instructions expanded with the address of the target are in range
pub expansion_in_range : (place : Name → Option Place) (at : ℕ) (s : AsmInstr) (a : ℕ) (list : List Instr) → IsInstructionInRange s → instruction_fault place at s ≡ None → a ≡ target_address (target_in place s) → a < 4294967296 → list ≡ expansion (λ name. a) at s → AllByRecursion InRange list
expansion_in_range place at s a list r e is h same =
    let P : ℕ → Type 0 = λ n. n < 4294967296 in
    let Q : ℕ → Type 0 = λ n. AllByRecursion InRange (expansion (λ name. n) at s) in
    let R : List Instr → Type 0 = λ l. AllByRecursion InRange l in
    subst R (sym same) (subst Q (sym is) (instruction_in_range place at s r e (subst P is h)))

-- it is what the instruction is assembled to
pub expansion_is : (place : Name → Option Place) (at from : ℕ) (s : AsmInstr) (a : ℕ) (list : List Instr) → a ≡ target_address (target_in place s) → list ≡ expansion (λ name. a) at s → at ≡ from → list ≡ expansion (λ name. address_or_zero (place name)) from s
expansion_is place at from s a list is same e =
    same ∙ ap (λ n. expansion (λ name. n) at s) is ∙ sym (expansion_of_target place at s) ∙ ap (λ n. expansion (λ name. address_or_zero (place name)) n s) e
