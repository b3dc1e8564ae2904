use Rattle.std.proofs.Common.{◌≡◌, ◌∙◌, Some, Err, sym, subst}
use Rattle.mips_isa.specs.{Lines.{lines_of}, declared.asm_fault.AsmError.{AsmError}, Assembly.{Assembles, fault_of}}
use Rattle.cool_driver.proofs.commands.debug.assemble_lines.Goals as goal

-- no line has a fault
pub unreachable-requires : goal.unreachable-requires
unreachable-requires c =
    let faulty : fault_of (lines_of c.args.lines.now) ≡ Some c.in-Err-Fault.field-0-0 =
    subst (λ (e : AsmError). Assembles (lines_of c.args.lines.now) (Err e)) c.in-Err-Fault.field-0-is c.in-Err-Fault.ensures in
    let both = sym c.requires.no_fault ∙ faulty in
    cc
