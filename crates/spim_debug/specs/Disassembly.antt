-- `disassembled` gives the line of assembly of a machine word: that of its instruction, without labels.
use Rattle.std.specs.Prelude.{◌≡◌, refl, ℕ, pos, negsuc, [], ◌∷◌, Option, Some, None}
use Rattle.mips_isa.specs.declared.line.Line as declared_line
use Rattle.mips_isa.specs.declared.instr.Instr.{Instr}
use Rattle.mips_isa.specs.declared.instr.Instr.TheVariants.{Lui, Imm, Shift, Mem, BranchOne}
use Rattle.mips_isa.specs.declared.instr.ImmOp.TheVariants.{Addi}
use Rattle.mips_isa.specs.declared.instr.MemOp.TheVariants.{Lw}
use Rattle.mips_isa.specs.declared.instr.OneOp.TheVariants.{Bgez}
use Rattle.mips_isa.specs.declared.instr.ShiftOp.TheVariants.{Sll}
use Rattle.mips_isa.specs.declared.register.TheConstants.{ZERO, A0, T0, FP}
use Rattle.mips_isa.specs.Lines.{Line, Plain, Empty, line_of}
use Rattle.mips_isa.specs.Assembly.{instruction_line, start_name}
use Rattle.mips_isa.specs.Decoding.{decoded}

abbrev pub line_of_option : Option declared_line.Line → Option Line
line_of_option None = None
line_of_option (Some line) = Some (line_of line)

abbrev pub line_of_instruction : Option Instr → Option Line
line_of_instruction None = None
line_of_instruction (Some i) = Some (instruction_line (Plain i))

-- the line of a word
abbrev pub disassembled : ℕ → Option Line
disassembled word = line_of_instruction (decoded word)

-- a line with only the label `__start`
abbrev pub start_line : Line
start_line = record { labels = start_name ∷ []; statement = Empty }

-- Worked examples: `lui $a0, 4096`; `addi $t0, $zero, -1`; `sll $t0, $t0, 2`; `lw $a0, -4($fp)`; `bgez $t0, 3`; an addu with a shift, which is no
-- instruction, and a word whose operation is none.
line_of_lui : disassembled 0x3c041000 ≡ Some (instruction_line (Plain (Lui A0 (pos 4096))))
unfolding decoded
line_of_lui = refl

line_of_addi : disassembled 0x2008ffff ≡ Some (instruction_line (Plain (Imm Addi T0 ZERO (negsuc 0))))
unfolding decoded
line_of_addi = refl

line_of_sll : disassembled 0x00084080 ≡ Some (instruction_line (Plain (Shift Sll T0 T0 2)))
unfolding decoded
line_of_sll = refl

line_of_lw : disassembled 0x8fc4fffc ≡ Some (instruction_line (Plain (Mem Lw A0 FP (negsuc 3))))
unfolding decoded
line_of_lw = refl

line_of_bgez : disassembled 0x05010003 ≡ Some (instruction_line (Plain (BranchOne Bgez T0 (pos 3))))
unfolding decoded
line_of_bgez = refl

no_addu_with_a_shift : disassembled 0x00000061 ≡ None
unfolding decoded
no_addu_with_a_shift = refl

no_such_operation : disassembled 0xffffffff ≡ None
unfolding decoded
no_such_operation = refl
