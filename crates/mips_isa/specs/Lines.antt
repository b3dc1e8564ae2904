-- `Line` is a line of assembly, as contracts see it: its labels, and its statement, which is an instruction, a data item, a directive, or nothing.
use Rattle.std.specs.Prelude.{ℕ, ◌^◌, ℤ, pos, negsuc, ◌<◌, ◌≤◌, List, map}
use Rattle.std.specs.List.{AllByRecursion}
use Rattle.mips_isa.specs.declared.address_map.TheConstants.{MOST_DATA_BYTES}
use Rattle.mips_isa.specs.declared.instr.Instr.{Instr}
use Rattle.mips_isa.specs.Words.{InRange}
use Rattle.mips_isa.specs.declared.instr.TwoOp.{TwoOp}
use Rattle.mips_isa.specs.declared.instr.OneOp.{OneOp}
use Rattle.mips_isa.specs.declared.instr.JumpOp.{JumpOp}
use Rattle.mips_isa.specs.declared.line.ZeroOp.{ZeroOp}
use Rattle.mips_isa.specs.declared.line.OrderOp.{OrderOp}
use Rattle.mips_isa.specs.declared.line.WordItem as declared_item
use Rattle.mips_isa.specs.declared.line.WordItem.TheVariants as items
use Rattle.mips_isa.specs.declared.line.AsmInstr as declared_instruction
use Rattle.mips_isa.specs.declared.line.AsmInstr.TheVariants as instructions
use Rattle.mips_isa.specs.declared.line.DataItem as declared_data
use Rattle.mips_isa.specs.declared.line.DataItem.TheVariants as data_items
use Rattle.mips_isa.specs.declared.line.AsmDirective as declared_directive
use Rattle.mips_isa.specs.declared.line.AsmDirective.TheVariants as directives
use Rattle.mips_isa.specs.declared.line.Statement as declared_statement
use Rattle.mips_isa.specs.declared.line.Statement.TheVariants as statements
use Rattle.mips_isa.specs.declared.line.Line as declared_line

-- a name
abbrev pub Name : Type 0
Name = List ℕ

-- an operand of `.word`
pub data WordItem : Type 0 where
  Number : ℤ → WordItem
  Address : Name → WordItem

-- an instruction, or a pseudoinstruction
pub data AsmInstr : Type 0 where
  Plain : Instr → AsmInstr
  ToTwo : TwoOp → ℕ → ℕ → Name → AsmInstr
  ToOne : OneOp → ℕ → Name → AsmInstr
  ToJump : JumpOp → Name → AsmInstr
  La : ℕ → Name → AsmInstr
  Li : ℕ → ℤ → AsmInstr
  Move : ℕ → ℕ → AsmInstr
  Neg : ℕ → ℕ → AsmInstr
  Nop : AsmInstr
  B : Name → AsmInstr
  BranchZero : ZeroOp → ℕ → Name → AsmInstr
  BranchOrder : OrderOp → ℕ → ℕ → Name → AsmInstr
  Mul : ℕ → ℕ → ℕ → AsmInstr

-- an item of data
pub data DataItem : Type 0 where
  Word : List WordItem → DataItem
  Byte : List ℤ → DataItem
  Ascii : List ℕ → DataItem
  Asciiz : List ℕ → DataItem
  Space : ℕ → DataItem

-- a directive that is no item of data
pub data AsmDirective : Type 0 where
  ToText : AsmDirective
  ToData : AsmDirective
  Globl : Name → AsmDirective
  Align : ℕ → AsmDirective

pub data Statement : Type 0 where
  Empty : Statement
  Instruction : AsmInstr → Statement
  Data : DataItem → Statement
  Directive : AsmDirective → Statement

pub record Line : Type 0 where
  pub labels : List Name
  pub statement : Statement

-- how the declared lines are seen

abbrev pub item_of : declared_item.WordItem → WordItem
item_of (items.Number n) = Number n
item_of (items.Address label) = Address label

abbrev pub instruction_of : declared_instruction.AsmInstr → AsmInstr
instruction_of (instructions.Plain i) = Plain i
instruction_of (instructions.ToTwo op rs rt target) = ToTwo op rs rt target
instruction_of (instructions.ToOne op rs target) = ToOne op rs target
instruction_of (instructions.ToJump op target) = ToJump op target
instruction_of (instructions.La rd label) = La rd label
instruction_of (instructions.Li rd value) = Li rd value
instruction_of (instructions.Move rd rs) = Move rd rs
instruction_of (instructions.Neg rd rs) = Neg rd rs
instruction_of instructions.Nop = Nop
instruction_of (instructions.B target) = B target
instruction_of (instructions.BranchZero op rs target) = BranchZero op rs target
instruction_of (instructions.BranchOrder op rs rt target) = BranchOrder op rs rt target
instruction_of (instructions.Mul rd rs rt) = Mul rd rs rt

abbrev pub data_item_of : declared_data.DataItem → DataItem
data_item_of (data_items.Word list) = Word (map item_of list.items)
data_item_of (data_items.Byte list) = Byte list.items
data_item_of (data_items.Ascii bytes) = Ascii bytes.items
data_item_of (data_items.Asciiz bytes) = Asciiz bytes.items
data_item_of (data_items.Space n) = Space n

abbrev pub directive_of : declared_directive.AsmDirective → AsmDirective
directive_of directives.ToText = ToText
directive_of directives.ToData = ToData
directive_of (directives.Globl name) = Globl name
directive_of (directives.Align n) = Align n

abbrev pub statement_of : declared_statement.Statement → Statement
statement_of statements.Empty = Empty
statement_of (statements.Instruction i) = Instruction (instruction_of i)
statement_of (statements.Data item) = Data (data_item_of item.value)
statement_of (statements.Directive directive) = Directive (directive_of directive)

abbrev pub line_of : declared_line.Line → Line
line_of line = record { labels = line.labels; statement = statement_of line.statement }

abbrev pub lines_of : List declared_line.Line → List Line
lines_of = map line_of

-- the numbers of a line are in their ranges

abbrev pub IsWord : ℤ → Type 0
IsWord (pos n) = n < 2 ^ 32
IsWord (negsuc n) = n < 2 ^ 31

abbrev pub IsByte : ℤ → Type 0
IsByte (pos n) = n < 256
IsByte (negsuc n) = n < 128

abbrev pub IsItem : WordItem → Type 0
IsItem (Number n) = IsWord n
IsItem (Address label) = Unit {0}

abbrev pub IsInstructionInRange : AsmInstr → Type 0
IsInstructionInRange (Plain i) = InRange i
IsInstructionInRange (ToTwo op rs rt target) = (rs < 32) × (rt < 32)
IsInstructionInRange (ToOne op rs target) = rs < 32
IsInstructionInRange (ToJump op target) = Unit {0}
IsInstructionInRange (La rd label) = rd < 32
IsInstructionInRange (Li rd value) = (rd < 32) × IsWord value
IsInstructionInRange (Move rd rs) = (rd < 32) × (rs < 32)
IsInstructionInRange (Neg rd rs) = (rd < 32) × (rs < 32)
IsInstructionInRange Nop = Unit {0}
IsInstructionInRange (B target) = Unit {0}
IsInstructionInRange (BranchZero op rs target) = rs < 32
IsInstructionInRange (BranchOrder op rs rt target) = (rs < 32) × (rt < 32)
IsInstructionInRange (Mul rd rs rt) = (rd < 32) × (rs < 32) × (rt < 32)

abbrev pub IsDataInRange : DataItem → Type 0
IsDataInRange (Word list) = AllByRecursion IsItem list
IsDataInRange (Byte list) = AllByRecursion IsByte list
IsDataInRange (Ascii bytes) = Unit {0}
IsDataInRange (Asciiz bytes) = Unit {0}
IsDataInRange (Space n) = n ≤ MOST_DATA_BYTES

abbrev pub IsDirectiveInRange : AsmDirective → Type 0
IsDirectiveInRange ToText = Unit {0}
IsDirectiveInRange ToData = Unit {0}
IsDirectiveInRange (Globl name) = Unit {0}
IsDirectiveInRange (Align n) = n ≤ 12

abbrev pub IsInRange : Statement → Type 0
IsInRange Empty = Unit {0}
IsInRange (Instruction i) = IsInstructionInRange i
IsInRange (Data item) = IsDataInRange item
IsInRange (Directive directive) = IsDirectiveInRange directive

abbrev pub AreInRange : List Line → Type 0
AreInRange = AllByRecursion (λ line. IsInRange line.statement)
