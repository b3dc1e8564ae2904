-- If a valid instruction, whose numbers are in range, is printed as assembly and parsed again, the result is the same instruction.
use Rattle.std.proofs.Common.{◌≡◌, ◌∙◌, ap, refl, arith, ℕ, suc, ◌<◌, ℤ, pos, negsuc, Bool, true, false, List, [], ◌∷◌, nat_lt, if◌then◌else◌, Ok}
use Rattle.std.specs.Prelude.{Some, None}
use Rattle.std.specs.List.{AllByRecursion}
use Rattle.std.specs.Fmt.{signed_decimal}
use Rattle.std.proofs.lemmas.Bool.Decides.{nat_tests}
use Rattle.mips_isa.specs.declared.instr.Instr.{Instr}
use Rattle.mips_isa.specs.declared.instr.Instr.TheVariants as instr
use Rattle.mips_isa.specs.declared.instr.ThreeOp.{ThreeOp}
use Rattle.mips_isa.specs.declared.instr.ShiftOp.{ShiftOp}
use Rattle.mips_isa.specs.declared.instr.ShiftRegOp.{ShiftRegOp}
use Rattle.mips_isa.specs.declared.instr.FromOp.{FromOp}
use Rattle.mips_isa.specs.declared.instr.ToOp.{ToOp}
use Rattle.mips_isa.specs.declared.instr.MulDivOp.{MulDivOp}
use Rattle.mips_isa.specs.declared.instr.TwoOp.{TwoOp}
use Rattle.mips_isa.specs.declared.instr.OneOp.{OneOp}
use Rattle.mips_isa.specs.declared.instr.JumpOp.{JumpOp}
use Rattle.mips_isa.specs.declared.instr.MemOp.{MemOp}
use Rattle.mips_isa.specs.declared.line.ZeroOp.{ZeroOp}
use Rattle.mips_isa.specs.declared.line.OrderOp.{OrderOp}
use Rattle.mips_isa.specs.declared.instr.ImmOp.{ImmOp}
use Rattle.mips_isa.specs.declared.instr.ImmOp.TheVariants.{Addi, Addiu, Slti, Sltiu, Andi, Ori, Xori}
use Rattle.mips_isa.specs.Words.{InRange, IsSigned, IsUnsigned, IsImmediate}
use Rattle.mips_isa.specs.Assembly.{names_of_instruction}
use Rattle.mips_isa.specs.Lines as lines
use Rattle.mips_isa.specs.Lines.{Statement, IsInstructionInRange, IsWord}
use Rattle.mips_text.specs.declared.mnemonics.Mnemonic.{Mnemonic}
use Rattle.mips_text.specs.declared.mnemonics.Mnemonic.TheVariants as mnemonics
use Rattle.mips_text.specs.declared.wanted.Range.{Range}
use Rattle.mips_text.specs.declared.wanted.Range.TheVariants as range
use Rattle.mips_text.specs.Names.{directive_named, is_name, mnemonic_named, mnemonic_text, register_text}
use Rattle.mips_text.specs.Operands.{is_within, row_fault}
use Rattle.mips_text.specs.Printable.{IsName}
use Rattle.mips_text.specs.Printing.{memory_operand, instruction_text, plain_text}
use Rattle.mips_text.specs.Reading.{directive_read, has_label, instruction_read, judged, rest_read, statement_read}
use Rattle.mips_text.specs.Spelling.{operands_text, register_operand, row_text}
use Rattle.mips_text.specs.Statements.{imm_range, instruction_made, instruction_operands, kept}
use Rattle.mips_text.specs.Words.{Word, Name, Number, Register, Open, Close}
use Rattle.mips_text.proofs.NamedMnemonics.{NamedMnemonic, named}
use Rattle.mips_text.proofs.SpelledNumbers.{IsSmall, number_spells}
use Rattle.mips_text.proofs.SpelledRegisters.{Known, known, memory_spells, register_spells}
use Rattle.mips_text.proofs.SpelledRows.{Ends, Row, ends_nothing, operand_ends, row_reads, small_word}
use Rattle.mips_text.proofs.SpelledWords.{name_spells}
use Rattle.std.proofs.lemmas.Bool.{lt-ltb}

-- a text that is read as a statement, with no label before it
pub record Said (text : List ℕ) (statement : Statement) : Type 0 where
  pub words : List Word
  pub row : Row text words
  pub no_label : has_label words 0 ≡ false
  pub reads : rest_read words ≡ Ok statement

-- Numbers in their ranges

pub signed : (v : ℤ) → IsSigned v → is_within range.Signed v ≡ true
signed (pos n) h = grind (arith, nat_tests)
signed (negsuc n) h = grind (arith, nat_tests)

pub unsigned : (v : ℤ) → IsUnsigned v → is_within range.Unsigned v ≡ true
unsigned (pos n) h = grind (arith, nat_tests)
unsigned (negsuc n) h = absurd h

pub word : (v : ℤ) → IsWord v → is_within range.Word v ≡ true
word (pos n) h = grind (arith, nat_tests)
word (negsuc n) h = grind (arith, nat_tests)

immediate : (op : ImmOp) (v : ℤ) → IsImmediate op v → is_within (imm_range op) v ≡ true
immediate Addi v h = signed v h
immediate Addiu v h = signed v h
immediate Slti v h = signed v h
immediate Sltiu v h = signed v h
immediate Andi v h = unsigned v h
immediate Ori v h = unsigned v h
immediate Xori v h = unsigned v h

pub small_signed : (v : ℤ) → IsSigned v → IsSmall v
small_signed (pos n) h = omega arith
small_signed (negsuc n) h = omega arith

small_unsigned : (v : ℤ) → IsUnsigned v → IsSmall v
small_unsigned (pos n) h = omega arith
small_unsigned (negsuc n) h = absurd h

small_immediate : (op : ImmOp) (v : ℤ) → IsImmediate op v → IsSmall v
small_immediate Addi v h = small_signed v h
small_immediate Addiu v h = small_signed v h
small_immediate Slti v h = small_signed v h
small_immediate Sltiu v h = small_signed v h
small_immediate Andi v h = small_unsigned v h
small_immediate Ori v h = small_unsigned v h
small_immediate Xori v h = small_unsigned v h

pub kept_same : (r : Range) (v : ℤ) → is_within r v ≡ true → kept r v ≡ v
kept_same r v h = ap (λ (t : Bool). if t then v else pos 0) h

-- Operands

reg : (index : ℕ) (register : ℕ) (operands : List (List ℕ)) (words : List Word) → register < 32 → Ends (operands_text (suc index) operands) words → Ends (operands_text index (register_operand register ∷ operands)) (Register (register_text register) ∷ words)
reg index register operands words h e = operand_ends index (register_operand register) operands (Register (register_text register) ∷ []) words (register_spells register h) e

num : (index : ℕ) (v : ℤ) → IsSmall v → Ends (operands_text index (signed_decimal v ∷ [])) (Number v ∷ [])
num index v h = operand_ends index (signed_decimal v) [] (Number v ∷ []) [] (number_spells v h) ends_nothing

name : (index : ℕ) (label : List ℕ) → is_name label ≡ true → Ends (operands_text index (label ∷ [])) (Name label ∷ [])
name index label h = operand_ends index label [] (Name label ∷ []) [] (name_spells label h) ends_nothing

-- a mnemonic and its operands
instruction_said : (m : Mnemonic) (operands : List (List ℕ)) (words : List Word) (i : lines.AsmInstr) → Ends (operands_text 0 operands) words → has_label (Name (mnemonic_text m) ∷ words) 0 ≡ false → row_fault (instruction_operands m words) words ≡ None → instruction_made m words ≡ i → Said (row_text (mnemonic_text m) operands) (lines.Instruction i)
instruction_said m operands words i e l fault made =
    let k : NamedMnemonic m = named m in
    let read : instruction_read (Some m) words ≡ Ok (lines.Instruction i) =
    ap (λ o. judged o (lines.Instruction (instruction_made m words))) fault ∙ ap (λ x. Ok (lines.Instruction x)) made in
    let told : statement_read (mnemonic_text m) words ≡ instruction_read (mnemonic_named (mnemonic_text m)) words =
    ap (λ (t : Bool). if t then directive_read (directive_named (mnemonic_text m)) words else instruction_read (mnemonic_named (mnemonic_text m)) words) k.no_dot in
    record {
      words = Name (mnemonic_text m) ∷ words;
      row = row_reads (mnemonic_text m) operands words k.name e;
      no_label = l;
      reads = told ∙ (ap (λ o. instruction_read o words) k.named ∙ read);
    }

three : (op : ThreeOp) (rd rs rt : ℕ) → rd < 32 → rs < 32 → rt < 32 → Said (row_text (mnemonic_text (mnemonics.Three op)) (register_operand rd ∷ register_operand rs ∷ register_operand rt ∷ [])) (lines.Instruction (lines.Plain (instr.Three op rd rs rt)))
three op rd rs rt h0 h1 h2 =
    let k_rd : Known rd = known rd h0 in
    let k_rs : Known rs = known rs h1 in
    let k_rt : Known rt = known rt h2 in
    instruction_said (mnemonics.Three op) (register_operand rd ∷ register_operand rs ∷ register_operand rt ∷ []) (Register (register_text rd) ∷ Register (register_text rs) ∷ Register (register_text rt) ∷ []) (lines.Plain (instr.Three op rd rs rt)) (reg 0 rd (register_operand rs ∷ register_operand rt ∷ []) (Register (register_text rs) ∷ Register (register_text rt) ∷ []) h0 (reg 1 rs (register_operand rt ∷ []) (Register (register_text rt) ∷ []) h1 (reg 2 rt [] [] h2 ends_nothing))) refl (rw (k_rd.named, k_rs.named, k_rt.named) refl) (rw (k_rd.named, k_rs.named, k_rt.named) refl)

shift_reg : (op : ShiftRegOp) (rd rt rs : ℕ) → rd < 32 → rt < 32 → rs < 32 → Said (row_text (mnemonic_text (mnemonics.ShiftReg op)) (register_operand rd ∷ register_operand rt ∷ register_operand rs ∷ [])) (lines.Instruction (lines.Plain (instr.ShiftReg op rd rt rs)))
shift_reg op rd rt rs h0 h1 h2 =
    let k_rd : Known rd = known rd h0 in
    let k_rt : Known rt = known rt h1 in
    let k_rs : Known rs = known rs h2 in
    instruction_said (mnemonics.ShiftReg op) (register_operand rd ∷ register_operand rt ∷ register_operand rs ∷ []) (Register (register_text rd) ∷ Register (register_text rt) ∷ Register (register_text rs) ∷ []) (lines.Plain (instr.ShiftReg op rd rt rs)) (reg 0 rd (register_operand rt ∷ register_operand rs ∷ []) (Register (register_text rt) ∷ Register (register_text rs) ∷ []) h0 (reg 1 rt (register_operand rs ∷ []) (Register (register_text rs) ∷ []) h1 (reg 2 rs [] [] h2 ends_nothing))) refl (rw (k_rd.named, k_rt.named, k_rs.named) refl) (rw (k_rd.named, k_rt.named, k_rs.named) refl)

jr : (rs : ℕ) → rs < 32 → Said (row_text (mnemonic_text mnemonics.Jr) (register_operand rs ∷ [])) (lines.Instruction (lines.Plain (instr.Jr rs)))
jr rs h0 =
    let k_rs : Known rs = known rs h0 in
    instruction_said mnemonics.Jr (register_operand rs ∷ []) (Register (register_text rs) ∷ []) (lines.Plain (instr.Jr rs)) (reg 0 rs [] [] h0 ends_nothing) refl (rw (k_rs.named) refl) (rw (k_rs.named) refl)

jalr : (rd rs : ℕ) → rd < 32 → rs < 32 → Said (row_text (mnemonic_text mnemonics.Jalr) (register_operand rd ∷ register_operand rs ∷ [])) (lines.Instruction (lines.Plain (instr.Jalr rd rs)))
jalr rd rs h0 h1 =
    let k_rd : Known rd = known rd h0 in
    let k_rs : Known rs = known rs h1 in
    instruction_said mnemonics.Jalr (register_operand rd ∷ register_operand rs ∷ []) (Register (register_text rd) ∷ Register (register_text rs) ∷ []) (lines.Plain (instr.Jalr rd rs)) (reg 0 rd (register_operand rs ∷ []) (Register (register_text rs) ∷ []) h0 (reg 1 rs [] [] h1 ends_nothing)) refl (rw (k_rd.named, k_rs.named) refl) (rw (k_rd.named, k_rs.named) refl)

syscall : Said (row_text (mnemonic_text mnemonics.Syscall) ([])) (lines.Instruction (lines.Plain (instr.Syscall)))
syscall =
    instruction_said mnemonics.Syscall ([]) ([]) (lines.Plain (instr.Syscall)) ends_nothing refl (refl) (refl)

move_from : (op : FromOp) (rd : ℕ) → rd < 32 → Said (row_text (mnemonic_text (mnemonics.MoveFrom op)) (register_operand rd ∷ [])) (lines.Instruction (lines.Plain (instr.MoveFrom op rd)))
move_from op rd h0 =
    let k_rd : Known rd = known rd h0 in
    instruction_said (mnemonics.MoveFrom op) (register_operand rd ∷ []) (Register (register_text rd) ∷ []) (lines.Plain (instr.MoveFrom op rd)) (reg 0 rd [] [] h0 ends_nothing) refl (rw (k_rd.named) refl) (rw (k_rd.named) refl)

move_to : (op : ToOp) (rs : ℕ) → rs < 32 → Said (row_text (mnemonic_text (mnemonics.MoveTo op)) (register_operand rs ∷ [])) (lines.Instruction (lines.Plain (instr.MoveTo op rs)))
move_to op rs h0 =
    let k_rs : Known rs = known rs h0 in
    instruction_said (mnemonics.MoveTo op) (register_operand rs ∷ []) (Register (register_text rs) ∷ []) (lines.Plain (instr.MoveTo op rs)) (reg 0 rs [] [] h0 ends_nothing) refl (rw (k_rs.named) refl) (rw (k_rs.named) refl)

mul_div : (op : MulDivOp) (rs rt : ℕ) → rs < 32 → rt < 32 → Said (row_text (mnemonic_text (mnemonics.MulDiv op)) (register_operand rs ∷ register_operand rt ∷ [])) (lines.Instruction (lines.Plain (instr.MulDiv op rs rt)))
mul_div op rs rt h0 h1 =
    let k_rs : Known rs = known rs h0 in
    let k_rt : Known rt = known rt h1 in
    instruction_said (mnemonics.MulDiv op) (register_operand rs ∷ register_operand rt ∷ []) (Register (register_text rs) ∷ Register (register_text rt) ∷ []) (lines.Plain (instr.MulDiv op rs rt)) (reg 0 rs (register_operand rt ∷ []) (Register (register_text rt) ∷ []) h0 (reg 1 rt [] [] h1 ends_nothing)) refl (rw (k_rs.named, k_rt.named) refl) (rw (k_rs.named, k_rt.named) refl)

move : (rd rs : ℕ) → rd < 32 → rs < 32 → Said (row_text (mnemonic_text mnemonics.Move) (register_operand rd ∷ register_operand rs ∷ [])) (lines.Instruction (lines.Move rd rs))
move rd rs h0 h1 =
    let k_rd : Known rd = known rd h0 in
    let k_rs : Known rs = known rs h1 in
    instruction_said mnemonics.Move (register_operand rd ∷ register_operand rs ∷ []) (Register (register_text rd) ∷ Register (register_text rs) ∷ []) (lines.Move rd rs) (reg 0 rd (register_operand rs ∷ []) (Register (register_text rs) ∷ []) h0 (reg 1 rs [] [] h1 ends_nothing)) refl (rw (k_rd.named, k_rs.named) refl) (rw (k_rd.named, k_rs.named) refl)

neg : (rd rs : ℕ) → rd < 32 → rs < 32 → Said (row_text (mnemonic_text mnemonics.Neg) (register_operand rd ∷ register_operand rs ∷ [])) (lines.Instruction (lines.Neg rd rs))
neg rd rs h0 h1 =
    let k_rd : Known rd = known rd h0 in
    let k_rs : Known rs = known rs h1 in
    instruction_said mnemonics.Neg (register_operand rd ∷ register_operand rs ∷ []) (Register (register_text rd) ∷ Register (register_text rs) ∷ []) (lines.Neg rd rs) (reg 0 rd (register_operand rs ∷ []) (Register (register_text rs) ∷ []) h0 (reg 1 rs [] [] h1 ends_nothing)) refl (rw (k_rd.named, k_rs.named) refl) (rw (k_rd.named, k_rs.named) refl)

nop : Said (row_text (mnemonic_text mnemonics.Nop) ([])) (lines.Instruction (lines.Nop))
nop =
    instruction_said mnemonics.Nop ([]) ([]) (lines.Nop) ends_nothing refl (refl) (refl)

mul : (rd rs rt : ℕ) → rd < 32 → rs < 32 → rt < 32 → Said (row_text (mnemonic_text mnemonics.Mul) (register_operand rd ∷ register_operand rs ∷ register_operand rt ∷ [])) (lines.Instruction (lines.Mul rd rs rt))
mul rd rs rt h0 h1 h2 =
    let k_rd : Known rd = known rd h0 in
    let k_rs : Known rs = known rs h1 in
    let k_rt : Known rt = known rt h2 in
    instruction_said mnemonics.Mul (register_operand rd ∷ register_operand rs ∷ register_operand rt ∷ []) (Register (register_text rd) ∷ Register (register_text rs) ∷ Register (register_text rt) ∷ []) (lines.Mul rd rs rt) (reg 0 rd (register_operand rs ∷ register_operand rt ∷ []) (Register (register_text rs) ∷ Register (register_text rt) ∷ []) h0 (reg 1 rs (register_operand rt ∷ []) (Register (register_text rt) ∷ []) h1 (reg 2 rt [] [] h2 ends_nothing))) refl (rw (k_rd.named, k_rs.named, k_rt.named) refl) (rw (k_rd.named, k_rs.named, k_rt.named) refl)

to_two : (op : TwoOp) (rs rt : ℕ) (label : List ℕ) → rs < 32 → rt < 32 → is_name label ≡ true → Said (row_text (mnemonic_text (mnemonics.BranchTwo op)) (register_operand rs ∷ register_operand rt ∷ label ∷ [])) (lines.Instruction (lines.ToTwo op rs rt label))
to_two op rs rt label h0 h1 h2 =
    let k_rs : Known rs = known rs h0 in
    let k_rt : Known rt = known rt h1 in
    instruction_said (mnemonics.BranchTwo op) (register_operand rs ∷ register_operand rt ∷ label ∷ []) (Register (register_text rs) ∷ Register (register_text rt) ∷ Name label ∷ []) (lines.ToTwo op rs rt label) (reg 0 rs (register_operand rt ∷ label ∷ []) (Register (register_text rt) ∷ Name label ∷ []) h0 (reg 1 rt (label ∷ []) (Name label ∷ []) h1 (name 2 label h2))) refl (rw (k_rs.named, k_rt.named) refl) (rw (k_rs.named, k_rt.named) refl)

to_one : (op : OneOp) (rs : ℕ) (label : List ℕ) → rs < 32 → is_name label ≡ true → Said (row_text (mnemonic_text (mnemonics.BranchOne op)) (register_operand rs ∷ label ∷ [])) (lines.Instruction (lines.ToOne op rs label))
to_one op rs label h0 h1 =
    let k_rs : Known rs = known rs h0 in
    instruction_said (mnemonics.BranchOne op) (register_operand rs ∷ label ∷ []) (Register (register_text rs) ∷ Name label ∷ []) (lines.ToOne op rs label) (reg 0 rs (label ∷ []) (Name label ∷ []) h0 (name 1 label h1)) refl (rw (k_rs.named) refl) (rw (k_rs.named) refl)

to_jump : (op : JumpOp) (label : List ℕ) → is_name label ≡ true → Said (row_text (mnemonic_text (mnemonics.Jump op)) (label ∷ [])) (lines.Instruction (lines.ToJump op label))
to_jump op label h0 =
    instruction_said (mnemonics.Jump op) (label ∷ []) (Name label ∷ []) (lines.ToJump op label) (name 0 label h0) refl (refl) (refl)

la : (rd : ℕ) (label : List ℕ) → rd < 32 → is_name label ≡ true → Said (row_text (mnemonic_text mnemonics.La) (register_operand rd ∷ label ∷ [])) (lines.Instruction (lines.La rd label))
la rd label h0 h1 =
    let k_rd : Known rd = known rd h0 in
    instruction_said mnemonics.La (register_operand rd ∷ label ∷ []) (Register (register_text rd) ∷ Name label ∷ []) (lines.La rd label) (reg 0 rd (label ∷ []) (Name label ∷ []) h0 (name 1 label h1)) refl (rw (k_rd.named) refl) (rw (k_rd.named) refl)

b : (label : List ℕ) → is_name label ≡ true → Said (row_text (mnemonic_text mnemonics.B) (label ∷ [])) (lines.Instruction (lines.B label))
b label h0 =
    instruction_said mnemonics.B (label ∷ []) (Name label ∷ []) (lines.B label) (name 0 label h0) refl (refl) (refl)

branch_zero : (op : ZeroOp) (rs : ℕ) (label : List ℕ) → rs < 32 → is_name label ≡ true → Said (row_text (mnemonic_text (mnemonics.BranchZero op)) (register_operand rs ∷ label ∷ [])) (lines.Instruction (lines.BranchZero op rs label))
branch_zero op rs label h0 h1 =
    let k_rs : Known rs = known rs h0 in
    instruction_said (mnemonics.BranchZero op) (register_operand rs ∷ label ∷ []) (Register (register_text rs) ∷ Name label ∷ []) (lines.BranchZero op rs label) (reg 0 rs (label ∷ []) (Name label ∷ []) h0 (name 1 label h1)) refl (rw (k_rs.named) refl) (rw (k_rs.named) refl)

branch_order : (op : OrderOp) (rs rt : ℕ) (label : List ℕ) → rs < 32 → rt < 32 → is_name label ≡ true → Said (row_text (mnemonic_text (mnemonics.BranchOrder op)) (register_operand rs ∷ register_operand rt ∷ label ∷ [])) (lines.Instruction (lines.BranchOrder op rs rt label))
branch_order op rs rt label h0 h1 h2 =
    let k_rs : Known rs = known rs h0 in
    let k_rt : Known rt = known rt h1 in
    instruction_said (mnemonics.BranchOrder op) (register_operand rs ∷ register_operand rt ∷ label ∷ []) (Register (register_text rs) ∷ Register (register_text rt) ∷ Name label ∷ []) (lines.BranchOrder op rs rt label) (reg 0 rs (register_operand rt ∷ label ∷ []) (Register (register_text rt) ∷ Name label ∷ []) h0 (reg 1 rt (label ∷ []) (Name label ∷ []) h1 (name 2 label h2))) refl (rw (k_rs.named, k_rt.named) refl) (rw (k_rs.named, k_rt.named) refl)

shift : (op : ShiftOp) (rd rt : ℕ) (v : ℕ) → rd < 32 → rt < 32 → v < 32 → Said (row_text (mnemonic_text (mnemonics.Shift op)) (register_operand rd ∷ register_operand rt ∷ signed_decimal (pos v) ∷ [])) (lines.Instruction (lines.Plain (instr.Shift op rd rt v)))
shift op rd rt v h0 h1 h2 =
    let k_rd : Known rd = known rd h0 in
    let k_rt : Known rt = known rt h1 in
    let w_v : nat_lt v 32 ≡ true = lt-ltb v 32 h2 in
    instruction_said (mnemonics.Shift op) (register_operand rd ∷ register_operand rt ∷ signed_decimal (pos v) ∷ []) (Register (register_text rd) ∷ Register (register_text rt) ∷ Number (pos v) ∷ []) (lines.Plain (instr.Shift op rd rt v)) (reg 0 rd (register_operand rt ∷ signed_decimal (pos v) ∷ []) (Register (register_text rt) ∷ Number (pos v) ∷ []) h0 (reg 1 rt (signed_decimal (pos v) ∷ []) (Number (pos v) ∷ []) h1 (num 2 (pos v) (omega arith)))) refl (rw (k_rd.named, k_rt.named, w_v) refl) (rw (k_rd.named, k_rt.named, w_v) refl)

imm : (op : ImmOp) (rt rs : ℕ) (v : ℤ) → rt < 32 → rs < 32 → IsImmediate op v → Said (row_text (mnemonic_text (mnemonics.Imm op)) (register_operand rt ∷ register_operand rs ∷ signed_decimal v ∷ [])) (lines.Instruction (lines.Plain (instr.Imm op rt rs v)))
imm op rt rs v h0 h1 h2 =
    let k_rt : Known rt = known rt h0 in
    let k_rs : Known rs = known rs h1 in
    let w_v : is_within (imm_range op) v ≡ true = immediate op v h2 in
    instruction_said (mnemonics.Imm op) (register_operand rt ∷ register_operand rs ∷ signed_decimal v ∷ []) (Register (register_text rt) ∷ Register (register_text rs) ∷ Number v ∷ []) (lines.Plain (instr.Imm op rt rs v)) (reg 0 rt (register_operand rs ∷ signed_decimal v ∷ []) (Register (register_text rs) ∷ Number v ∷ []) h0 (reg 1 rs (signed_decimal v ∷ []) (Number v ∷ []) h1 (num 2 v (small_immediate op v h2)))) refl (rw (k_rt.named, k_rs.named, w_v) refl) (rw (k_rt.named, k_rs.named, w_v) refl)

lui : (rt : ℕ) (v : ℤ) → rt < 32 → IsUnsigned v → Said (row_text (mnemonic_text mnemonics.Lui) (register_operand rt ∷ signed_decimal v ∷ [])) (lines.Instruction (lines.Plain (instr.Lui rt v)))
lui rt v h0 h1 =
    let k_rt : Known rt = known rt h0 in
    let w_v : is_within range.Unsigned v ≡ true = unsigned v h1 in
    instruction_said mnemonics.Lui (register_operand rt ∷ signed_decimal v ∷ []) (Register (register_text rt) ∷ Number v ∷ []) (lines.Plain (instr.Lui rt v)) (reg 0 rt (signed_decimal v ∷ []) (Number v ∷ []) h0 (num 1 v (small_unsigned v h1))) refl (rw (k_rt.named, w_v) refl) (rw (k_rt.named, w_v) refl)

branch_two : (op : TwoOp) (rs rt : ℕ) (v : ℤ) → rs < 32 → rt < 32 → IsSigned v → Said (row_text (mnemonic_text (mnemonics.BranchTwo op)) (register_operand rs ∷ register_operand rt ∷ signed_decimal v ∷ [])) (lines.Instruction (lines.Plain (instr.BranchTwo op rs rt v)))
branch_two op rs rt v h0 h1 h2 =
    let k_rs : Known rs = known rs h0 in
    let k_rt : Known rt = known rt h1 in
    let w_v : is_within range.Signed v ≡ true = signed v h2 in
    instruction_said (mnemonics.BranchTwo op) (register_operand rs ∷ register_operand rt ∷ signed_decimal v ∷ []) (Register (register_text rs) ∷ Register (register_text rt) ∷ Number v ∷ []) (lines.Plain (instr.BranchTwo op rs rt v)) (reg 0 rs (register_operand rt ∷ signed_decimal v ∷ []) (Register (register_text rt) ∷ Number v ∷ []) h0 (reg 1 rt (signed_decimal v ∷ []) (Number v ∷ []) h1 (num 2 v (small_signed v h2)))) refl (rw (k_rs.named, k_rt.named, w_v) refl) (rw (k_rs.named, k_rt.named, w_v) refl)

branch_one : (op : OneOp) (rs : ℕ) (v : ℤ) → rs < 32 → IsSigned v → Said (row_text (mnemonic_text (mnemonics.BranchOne op)) (register_operand rs ∷ signed_decimal v ∷ [])) (lines.Instruction (lines.Plain (instr.BranchOne op rs v)))
branch_one op rs v h0 h1 =
    let k_rs : Known rs = known rs h0 in
    let w_v : is_within range.Signed v ≡ true = signed v h1 in
    instruction_said (mnemonics.BranchOne op) (register_operand rs ∷ signed_decimal v ∷ []) (Register (register_text rs) ∷ Number v ∷ []) (lines.Plain (instr.BranchOne op rs v)) (reg 0 rs (signed_decimal v ∷ []) (Number v ∷ []) h0 (num 1 v (small_signed v h1))) refl (rw (k_rs.named, w_v) refl) (rw (k_rs.named, w_v) refl)

jump : (op : JumpOp) (v : ℕ) → v < 67108864 → Said (row_text (mnemonic_text (mnemonics.Jump op)) (signed_decimal (pos v) ∷ [])) (lines.Instruction (lines.Plain (instr.Jump op v)))
jump op v h0 =
    let w_v : nat_lt v 67108864 ≡ true = lt-ltb v 67108864 h0 in
    instruction_said (mnemonics.Jump op) (signed_decimal (pos v) ∷ []) (Number (pos v) ∷ []) (lines.Plain (instr.Jump op v)) (num 0 (pos v) (omega arith)) refl (rw (w_v) refl) (rw (w_v) refl)

li : (rd : ℕ) (v : ℤ) → rd < 32 → IsWord v → Said (row_text (mnemonic_text mnemonics.Li) (register_operand rd ∷ signed_decimal v ∷ [])) (lines.Instruction (lines.Li rd v))
li rd v h0 h1 =
    let k_rd : Known rd = known rd h0 in
    let w_v : is_within range.Word v ≡ true = word v h1 in
    instruction_said mnemonics.Li (register_operand rd ∷ signed_decimal v ∷ []) (Register (register_text rd) ∷ Number v ∷ []) (lines.Li rd v) (reg 0 rd (signed_decimal v ∷ []) (Number v ∷ []) h0 (num 1 v (small_word v h1))) refl (rw (k_rd.named, w_v) refl) (rw (k_rd.named, w_v) refl)

memory : (op : MemOp) (rt rs : ℕ) (v : ℤ) → rt < 32 → rs < 32 → IsSigned v → Said (row_text (mnemonic_text (mnemonics.Mem op)) (register_operand rt ∷ memory_operand v rs ∷ [])) (lines.Instruction (lines.Plain (instr.Mem op rt rs v)))
memory op rt rs v h0 h1 h2 =
    let k_rt : Known rt = known rt h0 in
    let k_rs : Known rs = known rs h1 in
    let w_v : is_within range.Signed v ≡ true = signed v h2 in
    let words : List Word = Number v ∷ Open ∷ Register (register_text rs) ∷ Close ∷ [] in
    let last : Ends (operands_text 1 (memory_operand v rs ∷ [])) words =
    operand_ends 1 (memory_operand v rs) [] words [] (memory_spells v rs (small_signed v h2) h1) ends_nothing in
    instruction_said (mnemonics.Mem op) (register_operand rt ∷ memory_operand v rs ∷ []) (Register (register_text rt) ∷ words) (lines.Plain (instr.Mem op rt rs v)) (reg 0 rt (memory_operand v rs ∷ []) words h0 last) refl (rw (k_rt.named, k_rs.named, w_v) refl) (rw (k_rt.named, k_rs.named, w_v) refl)

-- All instructions

plain_said : (i : Instr) → InRange i → Said (plain_text i) (lines.Instruction (lines.Plain i))
plain_said (instr.Three op rd rs rt) h = three op rd rs rt h.0 h.1 h.2
plain_said (instr.Shift op rd rt sh) h = shift op rd rt sh h.0 h.1 h.2
plain_said (instr.ShiftReg op rd rt rs) h = shift_reg op rd rt rs h.0 h.1 h.2
plain_said (instr.Jr rs) h = jr rs h
plain_said (instr.Jalr rd rs) h = jalr rd rs h.0 h.1
plain_said instr.Syscall h = syscall
plain_said (instr.MoveFrom op rd) h = move_from op rd h
plain_said (instr.MoveTo op rs) h = move_to op rs h
plain_said (instr.MulDiv op rs rt) h = mul_div op rs rt h.0 h.1
plain_said (instr.Imm op rt rs v) h = imm op rt rs v h.0 h.1 h.2
plain_said (instr.Lui rt imm) h = lui rt imm h.0 h.1
plain_said (instr.BranchTwo op rs rt imm) h = branch_two op rs rt imm h.0 h.1 h.2
plain_said (instr.BranchOne op rs imm) h = branch_one op rs imm h.0 h.1
plain_said (instr.Jump op index) h = jump op index h
plain_said (instr.Mem op rt rs imm) h = memory op rt rs imm h.0 h.1 h.2

pub instruction_is_said : (i : lines.AsmInstr) → IsInstructionInRange i → AllByRecursion IsName (names_of_instruction i) → Said (instruction_text i) (lines.Instruction i)
instruction_is_said (lines.Plain i) h g = plain_said i h
instruction_is_said (lines.ToTwo op rs rt target) h g = to_two op rs rt target h.0 h.1 g.0
instruction_is_said (lines.ToOne op rs target) h g = to_one op rs target h g.0
instruction_is_said (lines.ToJump op target) h g = to_jump op target g.0
instruction_is_said (lines.La rd label) h g = la rd label h g.0
instruction_is_said (lines.Li rd value) h g = li rd value h.0 h.1
instruction_is_said (lines.Move rd rs) h g = move rd rs h.0 h.1
instruction_is_said (lines.Neg rd rs) h g = neg rd rs h.0 h.1
instruction_is_said lines.Nop h g = nop
instruction_is_said (lines.B target) h g = b target g.0
instruction_is_said (lines.BranchZero op rs target) h g = branch_zero op rs target h g.0
instruction_is_said (lines.BranchOrder op rs rt target) h g = branch_order op rs rt target h.0 h.1 g.0
instruction_is_said (lines.Mul rd rs rt) h g = mul rd rs rt h.0 h.1 h.2
