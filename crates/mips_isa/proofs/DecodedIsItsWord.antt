-- If a 32-bit word is decoded to an instruction, the instruction's fields are in range, and encoding it gives the word back.
use Rattle.std.specs.Prelude.{◌≡◌, ℕ, ◌/◌, ◌%◌, ◌<◌, ◌==◌, ◌&&◌, if◌then◌else◌, Bool, true, false, ◌⊎◌, pos, Option, Some, None, refl}
use Rattle.std.proofs.Common.{sym, subst, inl, inr, arith}
use Rattle.std.proofs.lemmas.Bool.{eqb-true}
use Rattle.mips_isa.specs.declared.instr.Instr.{Instr}
use Rattle.mips_isa.specs.declared.instr.Instr.TheVariants.{Three, Shift, ShiftReg, Jr, Jalr, Syscall, MoveFrom, MoveTo, MulDiv, Imm, Lui, BranchTwo, BranchOne, Jump, Mem}
use Rattle.mips_isa.specs.declared.instr.ThreeOp.{ThreeOp}
use Rattle.mips_isa.specs.declared.instr.ThreeOp.TheVariants.{Add, Addu, Sub, Subu, And, Or, Xor, Nor, Slt, Sltu}
use Rattle.mips_isa.specs.declared.instr.ShiftOp.{ShiftOp}
use Rattle.mips_isa.specs.declared.instr.ShiftOp.TheVariants.{Sll, Srl, Sra}
use Rattle.mips_isa.specs.declared.instr.ShiftRegOp.{ShiftRegOp}
use Rattle.mips_isa.specs.declared.instr.ShiftRegOp.TheVariants.{Sllv, Srlv, Srav}
use Rattle.mips_isa.specs.declared.instr.FromOp.TheVariants.{Mfhi, Mflo}
use Rattle.mips_isa.specs.declared.instr.ToOp.TheVariants.{Mthi, Mtlo}
use Rattle.mips_isa.specs.declared.instr.MulDivOp.TheVariants.{Mult, Multu, Div, Divu}
use Rattle.mips_isa.specs.declared.instr.ImmOp.{ImmOp}
use Rattle.mips_isa.specs.declared.instr.ImmOp.TheVariants.{Addi, Addiu, Slti, Sltiu, Andi, Ori, Xori}
use Rattle.mips_isa.specs.declared.instr.TwoOp.TheVariants.{Beq, Bne}
use Rattle.mips_isa.specs.declared.instr.OneOp.TheVariants.{Blez, Bgtz, Bltz, Bgez}
use Rattle.mips_isa.specs.declared.instr.JumpOp.TheVariants.{J, Jal}
use Rattle.mips_isa.specs.declared.instr.MemOp.{MemOp}
use Rattle.mips_isa.specs.declared.instr.MemOp.TheVariants.{Lb, Lh, Lw, Lbu, Lhu, Sb, Sh, Sw}
use Rattle.mips_isa.specs.Words.{fields, special, half_of, three_number, shift_number, shift_reg_number, imm_number, mem_number, word_of, IsSigned, IsImmediate, InRange}
use Rattle.mips_isa.specs.Decoding.{signed_half, immediate, unless_named, three_at, shift_at, shift_reg_at, imm_at, mem_at, other_special_at, shift_reg_or, shift_or, three_or, branch_at, mem_or, imm_or, decoded}

-- a word and its instruction
abbrev IsWordOf : ℕ → Instr → Type 0
IsWordOf word i = InRange i × (word_of i ≡ word)

-- what holds of a row's entry, where the entry is taken
entry : {X : Type 0} (P : X → Type 0) (x y : X) → P x → Some x ≡ Some y → P y
entry P x y here same = let k : x ≡ y = cc in subst P k here

-- a table with no row has no entry
no_row : {X : Type 0} (P : X → Type 0) (y : X) → None ≡ Some y → P y
no_row P y same = absurd cc

-- an entry whose other fields are 0
entry_of_zeros : (P : Instr → Type 0) (zero : Bool) (x y : Instr) → (zero ≡ true → P x) → unless_named zero x ≡ Some y → P y
entry_of_zeros P true x y here same = entry P x y (here refl) same
entry_of_zeros P false x y here same = absurd cc

-- a row's test tells whether its entry is taken
tested : {X : Type 0} (a b : ℕ) (x rest : Option X) (y : X) → (if a == b then x else rest) ≡ Some y → ((a ≡ b) × (x ≡ Some y)) ⊎ (rest ≡ Some y)
tested a b x rest y same = grind arith

-- a row's test, and the rows after it
test : {X : Type 0} (P : X → Type 0) (a b : ℕ) (x rest : Option X) (y : X) → (a ≡ b → x ≡ Some y → P y) → (rest ≡ Some y → P y) → (if a == b then x else rest) ≡ Some y → P y
test P a b x rest y here behind same = elim (tested a b x rest y same) [ inl t ↦ here t.0 t.1 | inr t ↦ behind t ]

-- a row of a table of operations by their numbers
numbered : {X : Type 0} (number : X → ℕ) (n : ℕ) (x : X) (rest : Option X) (y : X) → (rest ≡ Some y → number y ≡ n) → (if n == number x then Some x else rest) ≡ Some y → number y ≡ n
numbered number n x rest y behind =
    test (λ z. number z ≡ n) n (number x) (Some x) rest y (λ e. entry (λ z. number z ≡ n) x y (sym e)) behind

-- the number of an operation on three registers
three_at-is : (fn : ℕ) (op : ThreeOp) → three_at fn ≡ Some op → three_number op ≡ fn
three_at-is fn op =
    numbered three_number fn Add _ op (
    numbered three_number fn Addu _ op (
    numbered three_number fn Sub _ op (
    numbered three_number fn Subu _ op (
    numbered three_number fn And _ op (
    numbered three_number fn Or _ op (
    numbered three_number fn Xor _ op (
    numbered three_number fn Nor _ op (
    numbered three_number fn Slt _ op (
    numbered three_number fn Sltu _ op (
    no_row (λ z. three_number z ≡ fn) op))))))))))

-- the number of a shift by a number
shift_at-is : (fn : ℕ) (op : ShiftOp) → shift_at fn ≡ Some op → shift_number op ≡ fn
shift_at-is fn op =
    numbered shift_number fn Sll _ op (
    numbered shift_number fn Srl _ op (
    numbered shift_number fn Sra _ op (
    no_row (λ z. shift_number z ≡ fn) op)))

-- the number of a shift by a register
shift_reg_at-is : (fn : ℕ) (op : ShiftRegOp) → shift_reg_at fn ≡ Some op → shift_reg_number op ≡ fn
shift_reg_at-is fn op =
    numbered shift_reg_number fn Sllv _ op (
    numbered shift_reg_number fn Srlv _ op (
    numbered shift_reg_number fn Srav _ op (
    no_row (λ z. shift_reg_number z ≡ fn) op)))

-- the number of an operation with an immediate
imm_at-is : (op : ℕ) (operation : ImmOp) → imm_at op ≡ Some operation → imm_number operation ≡ op
imm_at-is op operation =
    numbered imm_number op Addi _ operation (
    numbered imm_number op Addiu _ operation (
    numbered imm_number op Slti _ operation (
    numbered imm_number op Sltiu _ operation (
    numbered imm_number op Andi _ operation (
    numbered imm_number op Ori _ operation (
    numbered imm_number op Xori _ operation (
    no_row (λ z. imm_number z ≡ op) operation)))))))

-- the number of a load or a store
mem_at-is : (op : ℕ) (operation : MemOp) → mem_at op ≡ Some operation → mem_number operation ≡ op
mem_at-is op operation =
    numbered mem_number op Lb _ operation (
    numbered mem_number op Lh _ operation (
    numbered mem_number op Lw _ operation (
    numbered mem_number op Lbu _ operation (
    numbered mem_number op Lhu _ operation (
    numbered mem_number op Sb _ operation (
    numbered mem_number op Sh _ operation (
    numbered mem_number op Sw _ operation (
    no_row (λ z. mem_number z ≡ op) operation))))))))

-- 16 bits as a signed number
signed_half-is : (n : ℕ) → n < 65536 → IsSigned (signed_half n) × (half_of (signed_half n) ≡ n)
signed_half-is n small = grind arith

-- 16 bits as the operation extends them
immediate-is : (op : ImmOp) (n : ℕ) → n < 65536 → IsImmediate op (immediate op n) × (half_of (immediate op n) ≡ n)
immediate-is Addi n small = signed_half-is n small
immediate-is Addiu n small = signed_half-is n small
immediate-is Slti n small = signed_half-is n small
immediate-is Sltiu n small = signed_half-is n small
immediate-is op n small = (small, omega arith)

-- two fields that are tested are 0
zeros_2 : (a b : ℕ) → (a == 0 && b == 0) ≡ true → (a ≡ 0) × (b ≡ 0)
zeros_2 a b e = grind arith

-- likewise of three
zeros_3 : (a b c : ℕ) → (a == 0 && (b == 0 && c == 0)) ≡ true → (a ≡ 0) × (b ≡ 0) × (c ≡ 0)
zeros_3 a b c e = grind arith

-- likewise of four
zeros_4 : (a b c d : ℕ) → (a == 0 && (b == 0 && (c == 0 && d == 0))) ≡ true → (a ≡ 0) × (b ≡ 0) × (c ≡ 0) × (d ≡ 0)
zeros_4 a b c d e = grind arith

-- a jump by register, a system call, or an instruction on HI and LO
other_special-is : (rs rt rd sh fn : ℕ) (i : Instr) → rs < 32 → rt < 32 → rd < 32 → sh < 32 → other_special_at rs rt rd sh fn ≡ Some i → IsWordOf (special rs rt rd sh fn) i
other_special-is rs rt rd sh fn i a b c d =
    let P : Instr → Type 0 = IsWordOf (special rs rt rd sh fn) in
    test P fn 8 _ _ i (λ e. entry_of_zeros P (rt == 0 && (rd == 0 && sh == 0)) (Jr rs) i (λ t. (a, omega (arith, zeros_3 rt rd sh t)))) (
    test P fn 9 _ _ i (λ e. entry_of_zeros P (rt == 0 && sh == 0) (Jalr rd rs) i (λ t. ((c, a), omega (arith, zeros_2 rt sh t)))) (
    test P fn 12 _ _ i (λ e. entry_of_zeros P (rs == 0 && (rt == 0 && (rd == 0 && sh == 0))) Syscall i (λ t. (tt, omega (arith, zeros_4 rs rt rd sh t)))) (
    test P fn 16 _ _ i (λ e. entry_of_zeros P (rs == 0 && (rt == 0 && sh == 0)) (MoveFrom Mfhi rd) i (λ t. (c, omega (arith, zeros_3 rs rt sh t)))) (
    test P fn 18 _ _ i (λ e. entry_of_zeros P (rs == 0 && (rt == 0 && sh == 0)) (MoveFrom Mflo rd) i (λ t. (c, omega (arith, zeros_3 rs rt sh t)))) (
    test P fn 17 _ _ i (λ e. entry_of_zeros P (rt == 0 && (rd == 0 && sh == 0)) (MoveTo Mthi rs) i (λ t. (a, omega (arith, zeros_3 rt rd sh t)))) (
    test P fn 19 _ _ i (λ e. entry_of_zeros P (rt == 0 && (rd == 0 && sh == 0)) (MoveTo Mtlo rs) i (λ t. (a, omega (arith, zeros_3 rt rd sh t)))) (
    test P fn 24 _ _ i (λ e. entry_of_zeros P (rd == 0 && sh == 0) (MulDiv Mult rs rt) i (λ t. ((a, b), omega (arith, zeros_2 rd sh t)))) (
    test P fn 25 _ _ i (λ e. entry_of_zeros P (rd == 0 && sh == 0) (MulDiv Multu rs rt) i (λ t. ((a, b), omega (arith, zeros_2 rd sh t)))) (
    test P fn 26 _ _ i (λ e. entry_of_zeros P (rd == 0 && sh == 0) (MulDiv Div rs rt) i (λ t. ((a, b), omega (arith, zeros_2 rd sh t)))) (
    test P fn 27 _ _ i (λ e. entry_of_zeros P (rd == 0 && sh == 0) (MulDiv Divu rs rt) i (λ t. ((a, b), omega (arith, zeros_2 rd sh t)))) (
    no_row P i)))))))))))

-- a shift by a register, or another instruction
shift_reg_or-is : (o : Option ShiftRegOp) (rs rt rd sh fn : ℕ) (i : Instr) → rs < 32 → rt < 32 → rd < 32 → sh < 32 → shift_reg_at fn ≡ o → shift_reg_or o rs rt rd sh fn ≡ Some i → IsWordOf (special rs rt rd sh fn) i
shift_reg_or-is None rs rt rd sh fn i a b c d e = other_special-is rs rt rd sh fn i a b c d
shift_reg_or-is (Some op) rs rt rd sh fn i a b c d e =
    entry_of_zeros (IsWordOf (special rs rt rd sh fn)) (sh == 0) (ShiftReg op rd rt rs) i (λ t. ((c, b, a), omega (arith, eqb-true sh 0 t, shift_reg_at-is fn op e)))

-- a shift by a number, or another instruction
shift_or-is : (o : Option ShiftOp) (rs rt rd sh fn : ℕ) (i : Instr) → rs < 32 → rt < 32 → rd < 32 → sh < 32 → shift_at fn ≡ o → shift_or o rs rt rd sh fn ≡ Some i → IsWordOf (special rs rt rd sh fn) i
shift_or-is None rs rt rd sh fn i a b c d e = shift_reg_or-is (shift_reg_at fn) rs rt rd sh fn i a b c d refl
shift_or-is (Some op) rs rt rd sh fn i a b c d e =
    entry_of_zeros (IsWordOf (special rs rt rd sh fn)) (rs == 0) (Shift op rd rt sh) i (λ t. ((c, b, d), omega (arith, eqb-true rs 0 t, shift_at-is fn op e)))

-- an operation on three registers, or another instruction
three_or-is : (o : Option ThreeOp) (rs rt rd sh fn : ℕ) (i : Instr) → rs < 32 → rt < 32 → rd < 32 → sh < 32 → three_at fn ≡ o → three_or o rs rt rd sh fn ≡ Some i → IsWordOf (special rs rt rd sh fn) i
three_or-is None rs rt rd sh fn i a b c d e = shift_or-is (shift_at fn) rs rt rd sh fn i a b c d refl
three_or-is (Some op) rs rt rd sh fn i a b c d e =
    entry_of_zeros (IsWordOf (special rs rt rd sh fn)) (sh == 0) (Three op rd rs rt) i (λ t. ((c, a, b), omega (arith, eqb-true sh 0 t, three_at-is fn op e)))

-- a branch, or an upper immediate
branch-is : (op rs rt half : ℕ) (i : Instr) → rs < 32 → rt < 32 → half < 65536 → branch_at op rs rt half ≡ Some i → IsWordOf (fields op rs rt half) i
branch-is op rs rt half i a b c =
    let P : Instr → Type 0 = IsWordOf (fields op rs rt half) in
    let k : IsSigned (signed_half half) × (half_of (signed_half half) ≡ half) = signed_half-is half c in
    test P op 4 _ _ i (λ e. entry P (BranchTwo Beq rs rt (signed_half half)) i ((a, b, k.0), omega arith)) (
    test P op 5 _ _ i (λ e. entry P (BranchTwo Bne rs rt (signed_half half)) i ((a, b, k.0), omega arith)) (
    test P op 6 _ _ i (λ e. entry_of_zeros P (rt == 0) (BranchOne Blez rs (signed_half half)) i (λ t. ((a, k.0), omega (arith, eqb-true rt 0 t)))) (
    test P op 7 _ _ i (λ e. entry_of_zeros P (rt == 0) (BranchOne Bgtz rs (signed_half half)) i (λ t. ((a, k.0), omega (arith, eqb-true rt 0 t)))) (
    test P op 1 _ _ i (λ e.
    test P rt 0 _ _ i (λ z. entry P (BranchOne Bltz rs (signed_half half)) i ((a, k.0), omega arith)) (
    entry_of_zeros P (rt == 1) (BranchOne Bgez rs (signed_half half)) i (λ t. ((a, k.0), omega (arith, eqb-true rt 1 t))))) (
    test P op 15 _ _ i (λ e. entry_of_zeros P (rs == 0) (Lui rt (pos half)) i (λ t. ((b, c), omega (arith, eqb-true rs 0 t)))) (
    no_row P i))))))

-- a load or a store, or another instruction
mem_or-is : (o : Option MemOp) (op rs rt half : ℕ) (i : Instr) → rs < 32 → rt < 32 → half < 65536 → mem_at op ≡ o → mem_or o op rs rt half ≡ Some i → IsWordOf (fields op rs rt half) i
mem_or-is None op rs rt half i a b c e = branch-is op rs rt half i a b c
mem_or-is (Some mem) op rs rt half i a b c e =
    let k : IsSigned (signed_half half) × (half_of (signed_half half) ≡ half) = signed_half-is half c in
    entry (IsWordOf (fields op rs rt half)) (Mem mem rt rs (signed_half half)) i ((b, a, k.0), omega (arith, mem_at-is op mem e))

-- an operation with an immediate, or another instruction
imm_or-is : (o : Option ImmOp) (op rs rt half : ℕ) (i : Instr) → rs < 32 → rt < 32 → half < 65536 → imm_at op ≡ o → imm_or o op rs rt half ≡ Some i → IsWordOf (fields op rs rt half) i
imm_or-is None op rs rt half i a b c e = mem_or-is (mem_at op) op rs rt half i a b c refl
imm_or-is (Some operation) op rs rt half i a b c e =
    let k : IsImmediate operation (immediate operation half) × (half_of (immediate operation half) ≡ half) = immediate-is operation half c in
    entry (IsWordOf (fields op rs rt half)) (Imm operation rt rs (immediate operation half)) i ((b, a, k.0), omega (arith, imm_at-is op operation e))

-- a word that is decoded is the word of its instruction, which is in range
pub word_of-decoded : (word : ℕ) (i : Instr) → word < 4294967296 → decoded word ≡ Some i → InRange i × (word_of i ≡ word)
unfolding decoded
word_of-decoded word i small =
    let P : Instr → Type 0 = IsWordOf word in
    let op : ℕ = word / 67108864 in
    let rs : ℕ = word / 2097152 % 32 in
    let rt : ℕ = word / 65536 % 32 in
    let rd : ℕ = word / 2048 % 32 in
    let sh : ℕ = word / 64 % 32 in
    let fn : ℕ = word % 64 in
    test P op 0 _ _ i (λ e s.
    let k : special rs rt rd sh fn ≡ word = omega arith in
    subst (λ w. IsWordOf w i) k (three_or-is (three_at fn) rs rt rd sh fn i (omega arith) (omega arith) (omega arith) (omega arith) refl s)) (
    test P op 2 _ _ i (λ e. entry P (Jump J (word % 67108864)) i (omega arith, omega arith)) (
    test P op 3 _ _ i (λ e. entry P (Jump Jal (word % 67108864)) i (omega arith, omega arith)) (
    λ s.
    let k : fields op rs rt (word % 65536) ≡ word = omega arith in
    subst (λ w. IsWordOf w i) k (imm_or-is (imm_at op) op rs rt (word % 65536) i (omega arith) (omega arith) (omega arith) refl s))))
