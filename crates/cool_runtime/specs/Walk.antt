-- `w_lines` computes, from a list of assembly lines, a precondition under which a run that begins at the first line reaches its goal. Only proofs use it.
use Rattle.std.specs.Prelude.{ℕ, zero, suc, ◌+◌, ◌*◌, ◌/◌, ◌%◌, ◌^◌, ◌<◌, ◌≤◌, ◌≡◌, ◌==◌, ℤ, pos, negsuc, Bool, true, false, List, [], ◌∷◌, ◌++◌, Option, Some, None}
use Rattle.std.specs.Fmt.{signed_decimal}
use Rattle.mips_isa.specs.declared.address_map.TheConstants.{DATA_START, HEAP_START, STACK_END}
use Rattle.mips_isa.specs.declared.instr.Instr.{Instr}
use Rattle.mips_isa.specs.declared.instr.Instr.TheVariants.{Three, Shift, ShiftReg, Jr, Jalr, Syscall, MoveFrom, MoveTo, MulDiv, Imm, Lui, BranchTwo, BranchOne, Jump, Mem}
use Rattle.mips_isa.specs.declared.instr.FromOp.{FromOp}
use Rattle.mips_isa.specs.declared.instr.FromOp.TheVariants.{Mfhi, Mflo}
use Rattle.mips_isa.specs.declared.instr.MulDivOp.{MulDivOp}
use Rattle.mips_isa.specs.declared.instr.MulDivOp.TheVariants.{Mult, Multu, Div, Divu}
use Rattle.mips_isa.specs.declared.instr.MemOp.{MemOp}
use Rattle.mips_isa.specs.declared.instr.MemOp.TheVariants.{Lb, Lh, Lw, Lbu, Lhu, Sb, Sh, Sw}
use Rattle.mips_isa.specs.declared.instr.JumpOp.{JumpOp}
use Rattle.mips_isa.specs.declared.instr.JumpOp.TheVariants.{J, Jal}
use Rattle.mips_isa.specs.declared.register.TheConstants.{ZERO, V0, A0, RA}
use Rattle.mips_isa.specs.declared.system_call.TheConstants.{PRINT_INT, PRINT_STRING, READ_INT, READ_CHAR, EXIT, EXIT2}
use Rattle.mips_isa.specs.Words.{bits_of}
use Rattle.mips_isa.specs.Bytes.{Bytes, Segments, word, set_byte, set_word}
use Rattle.mips_isa.specs.Machine.{Registers, set_register, wrap, long, three_result, imm_result, shift_result, shift_of, two_result, one_result, signed_quotient, signed_remainder}
use Rattle.mips_isa.specs.Calls.{State, Taken, asked, asked_line, number_of, char_of, signed, string_at}
use Rattle.mips_isa.specs.Lines.{AsmInstr, Plain, ToTwo, ToOne, ToJump, La, Li, Move, Neg, Nop, B, BranchZero, BranchOrder, Mul, Statement, Empty, Instruction, Data, Directive, Line}
use Rattle.mips_isa.specs.Assembly.{need, zero_branch}
use Rattle.cool_runtime.specs.Reaches.{World}
use Rattle.mips_asm.specs.TextWords.{words_needed}

-- The state besides registers, pc and memory: HI and LO, the break, and the console.
pub record Beside : Type 0 where
  pub hi : ℕ
  pub lo : ℕ
  pub heap_break : ℕ
  pub input : List ℕ
  pub ended : Bool
  pub output : List ℕ

-- the state of these parts
abbrev pub st : Registers → ℕ → Bytes → Beside → State
st r pc m x = record {
  core = record { registers = r; hi = x.hi; lo = x.lo; pc = pc; memory = m };
  heap_break = x.heap_break;
  input = x.input;
  ended = x.ended;
  output = x.output;
}

abbrev pub beside : State → Beside
beside s = record { hi = s.core.hi; lo = s.core.lo; heap_break = s.heap_break; input = s.input; ended = s.ended; output = s.output }

abbrev pub printed : Beside → List ℕ → Beside
printed x bytes = record x { output = x.output ++ bytes }

abbrev pub took : Beside → Taken → Beside
took x t = record x { input = t.rest; ended = t.ended }

-- The continuation of a block, a predicate of registers, pc, memory, and the rest. An end is an exit with a code.
abbrev pub Parts : Type 1
Parts = Registers → ℕ → Bytes → Beside → Type 0

abbrev pub Ending : Type 1
Ending = ℕ → State → Type 0

-- the continuation of a block, so many lines after the next one
abbrev pub Next : Type 1
Next = ℕ → Parts

-- a word at an address may be loaded and stored
pub record OkWord (b : Segments) (a : ℕ) : Type 0 where
  pub even : a % 4 ≡ 0
  pub above_text : DATA_START ≤ a
  pub below_top : a + 4 ≤ STACK_END
  pub in_data : a < HEAP_START → a + 4 ≤ b.data_end
  pub in_heap : HEAP_START ≤ a → a < b.stack_low → a + 4 ≤ b.heap_end

-- a byte at an address may be loaded and stored
pub record OkByte (b : Segments) (a : ℕ) : Type 0 where
  pub above_text : DATA_START ≤ a
  pub below_top : a < STACK_END
  pub in_data : a < HEAP_START → a < b.data_end
  pub in_heap : HEAP_START ≤ a → a < b.stack_low → a < b.heap_end

-- The assumed effect of a system call.
pub data Service : Type 0 where
  PrintInt : Service
  PrintString : List ℕ → Service
  ReadInt : Service
  ReadChar : Service
  Exit : Service
  ExitWith : Service

abbrev pub w_service : Segments → Service → Registers → ℕ → Bytes → Beside → Next → Ending → Type 0
w_service b PrintInt r pc m x go end = (r V0 ≡ PRINT_INT) × go 0 r (pc + 4) m (printed x (signed_decimal (signed (r A0))))
w_service b (PrintString bytes) r pc m x go end = (r V0 ≡ PRINT_STRING) × (string_at b m (r A0) ≡ Some bytes) × go 0 r (pc + 4) m (printed x bytes)
w_service b ReadInt r pc m x go end =
    (r V0 ≡ READ_INT) × go 0 (set_register r V0 (number_of (asked_line x.ended x.input).got)) (pc + 4) m (took x (asked_line x.ended x.input))
w_service b ReadChar r pc m x go end =
    (r V0 ≡ READ_CHAR) × go 0 (set_register r V0 (char_of (asked x.ended 1 x.input).got)) (pc + 4) m (took x (asked x.ended 1 x.input))
w_service b Exit r pc m x go end = (r V0 ≡ EXIT) × end 0 (st r (pc + 4) m x)
w_service b ExitWith r pc m x go end = (r V0 ≡ EXIT2) × end (r A0) (st r (pc + 4) m x)

abbrev pub w_value : Option ℕ → (ℕ → Type 0) → Type 0
w_value None go = ⊥
w_value (Some v) go = go v

abbrev pub w_mem : Segments → MemOp → Registers → Bytes → ℕ → ℕ → (Registers → Bytes → Type 0) → Type 0
w_mem b Lb r m k a go = ⊥
w_mem b Lh r m k a go = ⊥
w_mem b Lw r m k a go = OkWord b a × go (set_register r k (word m a)) m
w_mem b Lbu r m k a go = OkByte b a × go (set_register r k (m a)) m
w_mem b Lhu r m k a go = ⊥
w_mem b Sb r m k a go = OkByte b a × go r (set_byte m a (r k % 256))
w_mem b Sh r m k a go = ⊥
w_mem b Sw r m k a go = OkWord b a × go r (set_word m a (r k))

-- a branch by number passes over one line
abbrev pub w_branch : Bool → ℤ → ℕ → (ℕ → ℕ → Type 0) → Type 0
w_branch t (pos (suc zero)) pc go = (t ≡ true → go 1 (pc + 8)) × (t ≡ false → go 0 (pc + 4))
w_branch t (pos zero) pc go = ⊥
w_branch t (pos (suc (suc n))) pc go = ⊥
w_branch t (negsuc n) pc go = ⊥

abbrev pub w_hi_lo : MulDivOp → ℕ → ℕ → Beside → (Beside → Type 0) → Type 0
w_hi_lo Mult a b x go = go (record x { hi = long a * long b % 2 ^ 64 / 2 ^ 32; lo = wrap (long a * long b) })
w_hi_lo Multu a b x go = go (record x { hi = a * b / 2 ^ 32; lo = wrap (a * b) })
w_hi_lo Div a b x go = ((b == 0) ≡ false) × go (record x { hi = signed_remainder a b; lo = signed_quotient a b })
w_hi_lo Divu a b x go = ((b == 0) ≡ false) × go (record x { hi = a % b; lo = a / b })

abbrev pub w_from : FromOp → Beside → ℕ
w_from Mfhi x = x.hi
w_from Mflo x = x.lo

abbrev pub w_plain : Segments → Instr → Registers → ℕ → Bytes → Beside → Next → Parts → Ending → Type 0
w_plain b (Three op rd rs rt) r pc m x go jump end = w_value (three_result op (r rs) (r rt)) (λ v. go 0 (set_register r rd v) (pc + 4) m x)
w_plain b (Shift op rd rt sh) r pc m x go jump end = go 0 (set_register r rd (shift_result op (r rt) sh)) (pc + 4) m x
w_plain b (ShiftReg op rd rt rs) r pc m x go jump end = go 0 (set_register r rd (shift_result (shift_of op) (r rt) (r rs % 32))) (pc + 4) m x
w_plain b (Jr rs) r pc m x go jump end = jump r (r rs) m x
w_plain b (Jalr rd rs) r pc m x go jump end = jump (set_register r rd (pc + 4)) (r rs) m x
w_plain b Syscall r pc m x go jump end = (service : Service) × w_service b service r pc m x go end
w_plain b (MoveFrom op rd) r pc m x go jump end = go 0 (set_register r rd (w_from op x)) (pc + 4) m x
w_plain b (MoveTo op rs) r pc m x go jump end = ⊥
w_plain b (MulDiv op rs rt) r pc m x go jump end = w_hi_lo op (r rs) (r rt) x (λ y. go 0 r (pc + 4) m y)
w_plain b (Imm op rt rs i) r pc m x go jump end = w_value (imm_result op (r rs) (bits_of i)) (λ v. go 0 (set_register r rt v) (pc + 4) m x)
w_plain b (Lui rt i) r pc m x go jump end = go 0 (set_register r rt (wrap (bits_of i * 65536))) (pc + 4) m x
w_plain b (BranchTwo op rs rt i) r pc m x go jump end = w_branch (two_result op (r rs) (r rt)) i pc (λ k pc'. go k r pc' m x)
w_plain b (BranchOne op rs i) r pc m x go jump end = w_branch (one_result op (r rs)) i pc (λ k pc'. go k r pc' m x)
w_plain b (Jump op i) r pc m x go jump end = ⊥
w_plain b (Mem op rt rs i) r pc m x go jump end = w_mem b op r m rt (wrap (r rs + bits_of i)) (λ r' m'. go 0 r' (pc + 4) m' x)

abbrev pub w_jump : JumpOp → ℕ → Registers → ℕ → Bytes → Beside → Parts → Type 0
w_jump J a r pc m x jump = jump r a m x
w_jump Jal a r pc m x jump = jump (set_register r RA (pc + 4)) a m x

-- a branch to a label
abbrev pub w_to : Bool → ℕ → Registers → ℕ → Bytes → Beside → Next → Parts → Type 0
w_to t a r pc m x go jump = (t ≡ true → jump r a m x) × (t ≡ false → go 0 r (pc + 4) m x)

-- the condition on an instruction when it is next
abbrev pub w_instruction : World → AsmInstr → Registers → ℕ → Bytes → Beside → Next → Parts → Ending → Type 0
w_instruction w (Plain i) r pc m x go jump end = w_plain w.segments i r pc m x go jump end
w_instruction w (ToTwo op rs rt l) r pc m x go jump end = w_to (two_result op (r rs) (r rt)) (w.place l) r pc m x go jump
w_instruction w (ToOne op rs l) r pc m x go jump end = w_to (one_result op (r rs)) (w.place l) r pc m x go jump
w_instruction w (ToJump op l) r pc m x go jump end = w_jump op (w.place l) r pc m x jump
w_instruction w (La rd l) r pc m x go jump end = (0 < rd) × go 0 (set_register r rd (w.place l)) (pc + 8) m x
w_instruction w (Li rd n) r pc m x go jump end = (0 < rd) × (bits_of n < 2 ^ 32) × go 0 (set_register r rd (bits_of n)) (pc + 8) m x
w_instruction w (Move rd rs) r pc m x go jump end = go 0 (set_register r rd (wrap (r rs + r ZERO))) (pc + 4) m x
w_instruction w (Neg rd rs) r pc m x go jump end = ⊥
w_instruction w Nop r pc m x go jump end = ⊥
w_instruction w (B l) r pc m x go jump end = jump r (w.place l) m x
w_instruction w (BranchZero op rs l) r pc m x go jump end = w_to (two_result (zero_branch op) (r rs) (r ZERO)) (w.place l) r pc m x go jump
w_instruction w (BranchOrder op rs rt l) r pc m x go jump end = ⊥
w_instruction w (Mul rd rs rt) r pc m x go jump end = ⊥

-- the condition on a statement when it is next
abbrev pub w_statement : World → Statement → Registers → ℕ → Bytes → Beside → Next → Parts → Ending → Type 0
w_statement w Empty r pc m x go jump end = go 0 r pc m x
w_statement w (Instruction i) r pc m x go jump end = w_instruction w i r pc m x go jump end
w_statement w (Data item) r pc m x go jump end = ⊥
w_statement w (Directive directive) r pc m x go jump end = ⊥

-- a line that is passed over has one word

abbrev pub w_over_words : ℕ → Type 0 → Type 0
w_over_words zero go = ⊥
w_over_words (suc zero) go = go
w_over_words (suc (suc n)) go = ⊥

abbrev pub w_over : Statement → Type 0 → Type 0
w_over s go = w_over_words (words_needed (need s)) go

-- the condition on the lines, if the first k of them are passed over
abbrev pub w_lines : World → List Line → ℕ → Registers → ℕ → Bytes → Beside → Parts → Ending → Type 0
w_lines w [] zero r pc m x jump end = jump r pc m x
w_lines w [] (suc k) r pc m x jump end = ⊥
w_lines w (line ∷ rest) zero r pc m x jump end = w_statement w line.statement r pc m x (λ k r' pc' m' x'. w_lines w rest k r' pc' m' x' jump end) jump end
w_lines w (line ∷ rest) (suc k) r pc m x jump end = w_over line.statement (w_lines w rest k r pc m x jump end)

-- the instructions of lines, at most
abbrev pub steps : List Line → ℕ
steps [] = 0
steps (line ∷ rest) = words_needed (need line.statement) + steps rest
