-- The debugger prints the instruction of a machine word as the definition says: as the text of the statement that the word disassembles to.
use Rattle.std.proofs.Common.{◌≡◌, ◌∙◌, ap, ℕ, List}
use Rattle.std.specs.Prelude.{Option, Some, None, Result, Ok, Err, IfOk}
use Rattle.std.specs.Global.{Vec}
use Rattle.mips_isa.specs.declared.line.Line as declared_line
use Rattle.mips_isa.specs.declared.instr.Instr.{Instr}
use Rattle.mips_isa.specs.Lines.{Line, Plain, line_of, statement_of}
use Rattle.mips_isa.specs.Assembly.{instruction_line}
use Rattle.mips_text.specs.Printing.{statement_text}
use Rattle.spim_debug.specs.Disassembly.{line_of_instruction}
use Rattle.spim_debug.specs.Notes.{instruction_text}

-- the line of an instruction says the instruction
line_says : (o : Option Instr) (line : Line) → Some line ≡ line_of_instruction o → statement_text line.statement ≡ instruction_text o
line_says None line is = absurd cc
line_says (Some i) line is =
    let same : line ≡ instruction_line (Plain i) = cc in
    ap (λ (l : Line). statement_text l.statement) same

pub statement_says : (o : Option Instr) (line : declared_line.Line) → Some (line_of line) ≡ line_of_instruction o → statement_text (statement_of line.statement) ≡ instruction_text o
statement_says o line is = line_says o (line_of line) is

-- bytes by another name
pub items_as : {E : Type 0} (result : Result (Vec ℕ) E) (a b : List ℕ) → a ≡ b → IfOk result (λ v. v.items ≡ a) → IfOk result (λ v. v.items ≡ b)
items_as (Ok v) a b same is = is ∙ same
items_as (Err e) a b same is = is
