-- `ArePrintable` defines the lines of assembly that can be printed and parsed again without a change: their numbers are in their ranges, their names are
-- valid, and `.word` and `.byte` have an operand.
use Rattle.std.specs.Prelude.{◌≡◌, ◌<◌, true, List, length}
use Rattle.std.specs.List.{AllByRecursion}
use Rattle.mips_isa.specs.Assembly.{names_of_instruction, names_of_items}
use Rattle.mips_isa.specs.Lines.{Name, AsmDirective, ToText, ToData, Globl, Align, DataItem, Word, Byte, Ascii, Asciiz, Space, Statement, Empty, Instruction, Data, Directive, Line, IsInRange}
use Rattle.mips_text.specs.Names.{is_name}

abbrev pub IsName : Name → Type 0
IsName name = is_name name ≡ true

abbrev pub IsPrintableData : DataItem → Type 0
IsPrintableData (Word list) = (0 < length list) × AllByRecursion IsName (names_of_items list)
IsPrintableData (Byte list) = 0 < length list
IsPrintableData (Ascii bytes) = Unit {0}
IsPrintableData (Asciiz bytes) = Unit {0}
IsPrintableData (Space n) = Unit {0}

abbrev pub IsPrintableDirective : AsmDirective → Type 0
IsPrintableDirective ToText = Unit {0}
IsPrintableDirective ToData = Unit {0}
IsPrintableDirective (Globl name) = IsName name
IsPrintableDirective (Align n) = Unit {0}

abbrev pub IsPrintableStatement : Statement → Type 0
IsPrintableStatement Empty = Unit {0}
IsPrintableStatement (Instruction i) = AllByRecursion IsName (names_of_instruction i)
IsPrintableStatement (Data item) = IsPrintableData item
IsPrintableStatement (Directive directive) = IsPrintableDirective directive

pub record IsPrintable (line : Line) : Type 0 where
  pub labels : AllByRecursion IsName line.labels
  pub names : IsPrintableStatement line.statement
  pub ranges : IsInRange line.statement

abbrev pub ArePrintable : List Line → Type 0
ArePrintable = AllByRecursion IsPrintable
