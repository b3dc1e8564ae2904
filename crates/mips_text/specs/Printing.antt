-- `printed` gives the text of lines of assembly, in one fixed spelling. The rule is in `docs/assembly.md`, Printing.
use Rattle.std.specs.Prelude.{◌≡◌, refl, ℕ, ℤ, pos, negsuc, List, [], ◌∷◌, ◌++◌, map, flat_map, codes}
use Rattle.std.specs.Fmt.{signed_decimal, digits}
use Rattle.mips_isa.specs.declared.instr.Instr.{Instr}
use Rattle.mips_isa.specs.declared.instr.Instr.TheVariants as instructions
use Rattle.mips_isa.specs.declared.instr.ThreeOp.TheVariants.{Addu}
use Rattle.mips_isa.specs.declared.instr.MemOp.TheVariants.{Lw}
use Rattle.mips_isa.specs.declared.register.TheConstants.{ZERO, V0, A0, T0, SP}
use Rattle.mips_isa.specs.Lines.{Name, WordItem, Number, Address, AsmInstr, Plain, ToTwo, ToOne, ToJump, La, Li, Move, Neg, Nop, B, BranchZero, BranchOrder, Mul, DataItem, Word, Byte, Ascii, Asciiz, Space, AsmDirective, ToText, ToData, Globl, Align, Statement, Empty, Instruction, Data, Directive, Line}
use Rattle.mips_text.specs.declared.directives.Directive as declared
use Rattle.mips_text.specs.declared.directives.Directive.TheVariants as directives
use Rattle.mips_text.specs.declared.mnemonics.Mnemonic.{Mnemonic}
use Rattle.mips_text.specs.declared.mnemonics.Mnemonic.TheVariants as mnemonics
use Rattle.mips_text.specs.Names.{mnemonic_text, directive_text}
use Rattle.mips_text.specs.Spelling.{register_operand, letter_text, row_text}

-- a mnemonic, and registers
abbrev pub registers_text : Mnemonic → List ℕ → List ℕ
registers_text mnemonic registers = row_text (mnemonic_text mnemonic) (map register_operand registers)

-- a mnemonic, registers, and an operand after them
abbrev pub ended_text : Mnemonic → List ℕ → List ℕ → List ℕ
ended_text mnemonic registers last = row_text (mnemonic_text mnemonic) (map register_operand registers ++ last ∷ [])

-- a directive and its operands
abbrev pub directed_text : declared.Directive → List (List ℕ) → List ℕ
directed_text directive = row_text (directive_text directive)

-- an operand in memory: the offset, and the base in parentheses
abbrev pub memory_operand : ℤ → ℕ → List ℕ
memory_operand offset base = signed_decimal offset ++ (codes "(" ++ (register_operand base ++ codes ")"))

-- an operand of `.word`
abbrev pub item_operand : WordItem → List ℕ
item_operand (Number n) = signed_decimal n
item_operand (Address label) = label

-- a string in its quotes
abbrev pub string_operand : List ℕ → List ℕ
string_operand bytes = codes "\"" ++ (flat_map letter_text bytes ++ codes "\"")

-- an instruction whose operands are registers and numbers; these stand in decimal, and `jalr` with both registers
abbrev pub plain_text : Instr → List ℕ
plain_text (instructions.Three op rd rs rt) = registers_text (mnemonics.Three op) (rd ∷ rs ∷ rt ∷ [])
plain_text (instructions.Shift op rd rt sh) = ended_text (mnemonics.Shift op) (rd ∷ rt ∷ []) (signed_decimal (pos sh))
plain_text (instructions.ShiftReg op rd rt rs) = registers_text (mnemonics.ShiftReg op) (rd ∷ rt ∷ rs ∷ [])
plain_text (instructions.Jr rs) = registers_text mnemonics.Jr (rs ∷ [])
plain_text (instructions.Jalr rd rs) = registers_text mnemonics.Jalr (rd ∷ rs ∷ [])
plain_text instructions.Syscall = registers_text mnemonics.Syscall []
plain_text (instructions.MoveFrom op rd) = registers_text (mnemonics.MoveFrom op) (rd ∷ [])
plain_text (instructions.MoveTo op rs) = registers_text (mnemonics.MoveTo op) (rs ∷ [])
plain_text (instructions.MulDiv op rs rt) = registers_text (mnemonics.MulDiv op) (rs ∷ rt ∷ [])
plain_text (instructions.Imm op rt rs imm) = ended_text (mnemonics.Imm op) (rt ∷ rs ∷ []) (signed_decimal imm)
plain_text (instructions.Lui rt imm) = ended_text mnemonics.Lui (rt ∷ []) (signed_decimal imm)
plain_text (instructions.BranchTwo op rs rt imm) = ended_text (mnemonics.BranchTwo op) (rs ∷ rt ∷ []) (signed_decimal imm)
plain_text (instructions.BranchOne op rs imm) = ended_text (mnemonics.BranchOne op) (rs ∷ []) (signed_decimal imm)
plain_text (instructions.Jump op index) = ended_text (mnemonics.Jump op) [] (signed_decimal (pos index))
plain_text (instructions.Mem op rt rs imm) = ended_text (mnemonics.Mem op) (rt ∷ []) (memory_operand imm rs)

-- an instruction or a pseudoinstruction
abbrev pub instruction_text : AsmInstr → List ℕ
instruction_text (Plain i) = plain_text i
instruction_text (ToTwo op rs rt target) = ended_text (mnemonics.BranchTwo op) (rs ∷ rt ∷ []) target
instruction_text (ToOne op rs target) = ended_text (mnemonics.BranchOne op) (rs ∷ []) target
instruction_text (ToJump op target) = ended_text (mnemonics.Jump op) [] target
instruction_text (La rd label) = ended_text mnemonics.La (rd ∷ []) label
instruction_text (Li rd value) = ended_text mnemonics.Li (rd ∷ []) (signed_decimal value)
instruction_text (Move rd rs) = registers_text mnemonics.Move (rd ∷ rs ∷ [])
instruction_text (Neg rd rs) = registers_text mnemonics.Neg (rd ∷ rs ∷ [])
instruction_text Nop = registers_text mnemonics.Nop []
instruction_text (B target) = ended_text mnemonics.B [] target
instruction_text (BranchZero op rs target) = ended_text (mnemonics.BranchZero op) (rs ∷ []) target
instruction_text (BranchOrder op rs rt target) = ended_text (mnemonics.BranchOrder op) (rs ∷ rt ∷ []) target
instruction_text (Mul rd rs rt) = registers_text mnemonics.Mul (rd ∷ rs ∷ rt ∷ [])

-- an item of data
abbrev pub data_text : DataItem → List ℕ
data_text (Word list) = directed_text directives.Word (map item_operand list)
data_text (Byte list) = directed_text directives.Byte (map signed_decimal list)
data_text (Ascii bytes) = directed_text directives.Ascii (string_operand bytes ∷ [])
data_text (Asciiz bytes) = directed_text directives.Asciiz (string_operand bytes ∷ [])
data_text (Space n) = directed_text directives.Space (signed_decimal (pos n) ∷ [])

-- a directive that is no item of data
abbrev pub other_directive_text : AsmDirective → List ℕ
other_directive_text ToText = directed_text directives.Text []
other_directive_text ToData = directed_text directives.Data []
other_directive_text (Globl name) = directed_text directives.Globl (name ∷ [])
other_directive_text (Align n) = directed_text directives.Align (signed_decimal (pos n) ∷ [])

-- a statement, or nothing for none
abbrev pub statement_text : Statement → List ℕ
statement_text Empty = []
statement_text (Instruction i) = instruction_text i
statement_text (Data item) = data_text item
statement_text (Directive directive) = other_directive_text directive

-- a statement behind a tab, or nothing for none
abbrev pub indented_text : Statement → List ℕ
indented_text Empty = []
indented_text (Instruction i) = 9 ∷ instruction_text i
indented_text (Data item) = 9 ∷ data_text item
indented_text (Directive directive) = 9 ∷ other_directive_text directive

-- a label before what follows
abbrev pub label_text : Name → List ℕ
label_text name = name ++ codes ":"

-- the labels, the statement, and a newline
abbrev pub line_text : Line → List ℕ
line_text line = flat_map label_text line.labels ++ (indented_text line.statement ++ 10 ∷ [])

-- lines, one after another
abbrev pub printed : List Line → List ℕ
printed = flat_map line_text

-- worked examples: a label and registers, memory after a negative offset, words, a string with an escape, and two lines
text_of_addu : line_text (record { labels = codes "main" ∷ []; statement = Instruction (Plain (instructions.Three Addu V0 A0 ZERO)) })
    ≡ codes "main:\taddu $v0, $a0, $zero\n"
text_of_addu = refl

text_of_lw : instruction_text (Plain (instructions.Mem Lw T0 SP (negsuc 3))) ≡ codes "lw $t0, -4($sp)"
unfolding digits
text_of_lw = refl

text_of_word : data_text (Word (Number (pos 12) ∷ Address (codes "next") ∷ [])) ≡ codes ".word 12, next"
unfolding digits
text_of_word = refl

text_of_asciiz : data_text (Asciiz (codes "a\"\n")) ≡ codes ".asciiz \"a\\\"\\n\""
text_of_asciiz = refl

text_of_two_lines : printed (record { labels = []; statement = Directive ToText }
    ∷ record { labels = codes "a" ∷ codes "b" ∷ []; statement = Empty } ∷ [])
    ≡ codes "\t.text\na:b:\n"
text_of_two_lines = refl
