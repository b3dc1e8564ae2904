use Rattle.std.proofs.Common.{inl, inr, List, ℕ, Result, Ok, Err}
use Rattle.std.specs.Global.{Global}
use Rattle.mips_isa.specs.{ImageBounds.{ImageParts}, Assembly.{Assembles}, Lines.{Line, lines_of}, declared.asm_fault.AsmError.{AsmError}}
use Rattle.mips_isa.specs.declared.asm_fault.AsmError.TheVariants.{Memory, Fault}
use Rattle.mips_text.specs.{Reading.{Reads}, Answers.{TextReadsAs}}
use Rattle.cool_driver.specs.commands.Exec.{AssemblesText}
use Rattle.cool_driver.proofs.commands.exec.assemble_text.Goals as goal

-- a text is assembled as its lines are
assembled : (bytes : List ℕ) (lines : List Line) (r : Result ImageParts AsmError) → Reads bytes lines → Assembles lines r → AssemblesText bytes r
assembled bytes lines (Ok image) reads h = (lines, reads, h.0, h.1)
assembled bytes lines (Err Memory) reads h = tt
assembled bytes lines (Err (Fault fault)) reads h = inr (lines, reads, h)

pub returns-in-Ok : goal.returns-in-Ok
returns-in-Ok c = assembled c.args.bytes.now (lines_of c.in-Ok.lines.items) c.assemble.result c.in-Ok.ensures.exact (rw c.deref.ensures.value at c.assemble.ensures)

-- a text that is not read has the fault of reading
misread : (bytes : List ℕ) (e : AsmError) → TextReadsAs {A = Global} bytes (Err e) → AssemblesText bytes (Err e)
misread bytes Memory h = tt
misread bytes (Fault fault) h = inl h

pub returns-in-Err : goal.returns-in-Err
returns-in-Err c = misread c.args.bytes.now c.in-Err.error c.in-Err.ensures.exact
