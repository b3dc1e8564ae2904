-- `build` cannot reach the branch for an error of the assembler, because the lines of a program within the limits satisfy `AreSound`, and such lines assemble
-- without error.
use Rattle.std.proofs.Common.{◌≡◌, ◌∙◌, Some, None, Err, map, sym, subst}
use Rattle.std.specs.Prelude.{string_bytes}
use Rattle.mips_isa.specs.declared.asm_fault.AsmError.{AsmError}
use Rattle.mips_isa.specs.Assembly.{Assembles, fault_of}
use Rattle.cool_emit.specs.Programs.{program_lines}
use Rattle.cool_emit.proofs.ProgramsAreSound.{names_sound}
use Rattle.cool_emit.proofs.SoundLinesAssemble.{no_fault}
use Rattle.cool_emit.proofs.building.build.Goals as goal

pub returns-in_err-layout-clause-no_fault : goal.returns-in_err-layout-clause-no_fault
returns-in_err-layout-clause-no_fault c = no_fault _ _ (names_sound c.args.p.now c.table.result.now c.args.names.now c.table.ensures.table c.requires.fits c.requires.names c.table.ensures.typed)

pub returns-in-Ok-clause-no_fault : goal.returns-in-Ok-clause-no_fault
returns-in-Ok-clause-no_fault c = no_fault _ _ (names_sound c.args.p.now c.table.result.now c.args.names.now c.table.ensures.table c.requires.fits c.requires.names c.table.ensures.typed)

pub returns-in-Err-Memory-clause-no_fault : goal.returns-in-Err-Memory-clause-no_fault
returns-in-Err-Memory-clause-no_fault c = no_fault _ _ (names_sound c.args.p.now c.table.result.now c.args.names.now c.table.ensures.table c.requires.fits c.requires.names c.table.ensures.typed)

pub unreachable-requires : goal.unreachable-requires
unreachable-requires c =
    let lines = program_lines c.args.p.now (map string_bytes c.args.names.now) in
    let faulty : fault_of lines ≡ Some c.in-Err-Fault.field-0-0 = subst (λ (e : AsmError). Assembles lines (Err e)) c.in-Err-Fault.field-0-is c.in-Err-Fault.ensures in
    let none : fault_of lines ≡ None = no_fault _ _ (names_sound c.args.p.now c.table.result.now c.args.names.now c.table.ensures.table c.requires.fits c.requires.names c.table.ensures.typed) in
    let both = sym none ∙ faulty in
    cc
