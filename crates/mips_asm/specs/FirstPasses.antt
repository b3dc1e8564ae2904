-- `HasTaken` is the invariant of the assembler's first pass: it knows the labels, data items and position of the lines so far, or their first error.
use Rattle.std.specs.Prelude.{◌≡◌, List, [], ◌++◌, length, Option, None, Some}
use Rattle.mips_isa.specs.declared.asm_fault.AsmFault.{AsmFault}
use Rattle.mips_isa.specs.Lines.{Line}
use Rattle.mips_isa.specs.Assembly.{start_position, first_pass}
use Rattle.mips_asm.specs.declared.first_pass.FirstPass.{FirstPass}
use Rattle.mips_asm.specs.Passes.{position_of, after_lines, items_from, table_from, shown}

-- lines without a fault were taken: their labels and items are known, and the position after them
pub record Passed (pass : FirstPass) (lines : List Line) : Type 0 where
  pub fine : first_pass [] start_position 1 lines ≡ None
  pub table : shown pass.table.entries ≡ table_from start_position 0 lines
  pub items : pass.items.items ≡ items_from start_position lines
  pub position : position_of pass.position ≡ after_lines start_position lines
  pub number : pass.lines ≡ length lines

-- lines were taken, whose first fault is this one, whatever follows them
abbrev pub IsPassed : Option AsmFault → FirstPass → List Line → Type 0
IsPassed None pass lines = Passed pass lines
IsPassed (Some fault) pass lines = (rest : List Line) → first_pass [] start_position 1 (lines ++ rest) ≡ Some fault

-- These lines were taken.
abbrev pub HasTaken : FirstPass → List Line → Type 0
HasTaken pass lines = IsPassed pass.fault pass lines
