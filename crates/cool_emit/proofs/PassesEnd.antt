-- The specified result of assembling a program, if memory runs out or the assembler's first pass finds an error, is that error.
use Rattle.std.proofs.Common.{◌≡◌, sym, subst}
use Rattle.std.specs.Prelude.{List, Result, Err}
use Rattle.mips_isa.specs.declared.asm_fault.AsmError.{AsmError}
use Rattle.mips_isa.specs.declared.asm_fault.AsmError.TheVariants.{Memory, Fault}
use Rattle.mips_isa.specs.ImageBounds.{ImageParts}
use Rattle.mips_isa.specs.Lines.{Line}
use Rattle.mips_isa.specs.Assembly.{Assembles}
use Rattle.mips_asm.specs.SecondPasses.{Begins}

-- out of memory
pub short_of_memory : (lines : List Line) (result : Result ImageParts AsmError) → result ≡ Err Memory → Assembles lines result
short_of_memory lines result is = subst (Assembles lines) (sym is) tt

-- a fault of the first pass
pub first_ends : (lines : List Line) (e : AsmError) → Begins lines (Err e) → (result : Result ImageParts AsmError) → result ≡ Err e → Assembles lines result
first_ends lines Memory h result is = subst (Assembles lines) (sym is) tt
first_ends lines (Fault fault) h result is = subst (Assembles lines) (sym is) h
