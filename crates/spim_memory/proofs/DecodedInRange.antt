-- If a 32-bit word is decoded to an instruction, all fields of this instruction are in range.
use Rattle.std.proofs.Common.{◌≡◌, ◌∙◌, sym, ℕ, ◌/◌, ◌<◌, ◌≤◌, None, Some, arith}
use Rattle.std.specs.Prelude.{◌==◌, if◌then◌else◌, Option, IfSome}
use Rattle.mips_isa.specs.declared.instr.Instr.{Instr}
use Rattle.mips_isa.specs.Words.{InRange}
use Rattle.mips_isa.specs.Decoding.{imm_at, mem_at, branch_at, immediate_at, decoded}
use Rattle.mips_isa.proofs.DecodedIsItsWord.{word_of-decoded}

-- no operation with an immediate has an op of more than 6 bits
no_imm : (op : ℕ) → 64 ≤ op → imm_at op ≡ None
no_imm op large = grind arith

-- no load or store has an op of more than 6 bits
no_mem : (op : ℕ) → 64 ≤ op → mem_at op ≡ None
no_mem op large = grind arith

-- no branch or upper immediate has an op of more than 6 bits
no_branch : (op rs rt imm : ℕ) → 64 ≤ op → branch_at op rs rt imm ≡ None
no_branch op rs rt imm large = grind arith

-- no row with an immediate has an op of more than 6 bits
no_immediate : (op rs rt imm : ℕ) → 64 ≤ op → immediate_at op rs rt imm ≡ None
no_immediate op rs rt imm large = rw (no_imm op large, no_mem op large) (no_branch op rs rt imm large)

-- if op is that of none of the first three rows, the last is taken
after_rows : {X : Type 0} (op : ℕ) (x y z rest : X) → 64 ≤ op → (if op == 0 then x else (if op == 2 then y else (if op == 3 then z else rest))) ≡ rest
after_rows op x y z rest large = grind arith

-- a number of more than 32 bits is the word of no instruction
no_word : (word : ℕ) → 4294967296 ≤ word → decoded word ≡ None
unfolding decoded
no_word word large = after_rows (word / 67108864) _ _ _ _ (omega (arith, large)) ∙ no_immediate (word / 67108864) _ _ _ (omega (arith, large))

-- a number that is decoded has at most 32 bits
decoded_is_word : (word : ℕ) (i : Instr) → decoded word ≡ Some i → word < 4294967296
decoded_is_word word i same = grind (arith, no_word)

-- an instruction that is decoded is in range
pub in_range : (word : ℕ) (found : Option Instr) → found ≡ decoded word → IfSome found InRange
in_range word None same = tt
in_range word (Some i) same = (word_of-decoded word i (decoded_is_word word i (sym same)) (sym same)).0
