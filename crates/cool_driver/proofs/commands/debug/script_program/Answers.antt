use Rattle.std.proofs.{Common.{ap, arith, length, refl, subst, sym, ◌∙◌}, lemmas.List.{length-map}}
use Rattle.cool_emit.proofs.SoundLinesAssemble.{few_lines, in_range, no_fault}
use Rattle.cool_faults.specs.Shown.{shown}
use Rattle.cool_words.specs.Plans.{words_of}
use Rattle.mips_isa.specs.{Assembly.{fault_of, image_of}, ImageBounds.{ImageParts}, Lines.{line_of, lines_of}}
use Rattle.spim_debug.specs.Debugging.{IsScriptFor}
use Rattle.cool_driver.specs.{Notes.{script_note, script_words}, commands.Debug.{IsDueToScript}, declared.status.Status.{Status}}
use Rattle.cool_driver.proofs.{LinesOfNotes.{placed_line}, RefusalsTold.{line_told}, rooms.Debuggings.{said_for}}
use Rattle.cool_words.proofs.FileNames.{short_names}
use Rattle.std.specs.Prelude.{decimal}
use Rattle.cool_driver.proofs.commands.debug.script_program.Goals as goal

-- the names are short
pub lines-requires-clause-names : goal.lines-requires-clause-names
lines-requires-clause-names c = short_names (words_of c.args.names.now) c.requires.names

-- the lines are few, their numbers are in range, and none has a fault
pub read_script-requires-clause-few : goal.read_script-requires-clause-few
read_script-requires-clause-few c =
    let made = ap length c.in_ok-lines.ensures.lines in
    let same = length-map c.in_ok-lines.lines.items line_of in
    let slice = ap length c.deref.ensures.value in
    let few = few_lines _ _ c.lines.ensures.sound in
    omega arith

pub read_script-requires-clause-ranges : goal.read_script-requires-clause-ranges
read_script-requires-clause-ranges c =
    rw (ap lines_of c.deref.ensures.value ∙ c.in_ok-lines.ensures.lines) (in_range _ _ c.lines.ensures.sound)

pub read_script-requires-clause-image : goal.read_script-requires-clause-image
read_script-requires-clause-image c =
    ap fault_of (ap lines_of c.deref.ensures.value ∙ c.in_ok-lines.ensures.lines) ∙ no_fault _ _ c.lines.ensures.sound

pub assemble_lines-requires-clause-few : goal.assemble_lines-requires-clause-few
assemble_lines-requires-clause-few c =
    let made = ap length c.in_ok-lines.ensures.lines in
    let same = length-map c.in_ok-lines.lines.items line_of in
    let slice = ap length c.deref-in-Ok.ensures.value in
    let few = few_lines _ _ c.lines.ensures.sound in
    omega arith

pub assemble_lines-requires-clause-ranges : goal.assemble_lines-requires-clause-ranges
assemble_lines-requires-clause-ranges c =
    rw (ap lines_of c.deref-in-Ok.ensures.value ∙ c.in_ok-lines.ensures.lines) (in_range _ _ c.lines.ensures.sound)

pub assemble_lines-requires-clause-no_fault : goal.assemble_lines-requires-clause-no_fault
assemble_lines-requires-clause-no_fault c =
    ap fault_of (ap lines_of c.deref-in-Ok.ensures.value ∙ c.in_ok-lines.ensures.lines) ∙ no_fault _ _ c.lines.ensures.sound

-- the script says commands
pub returns-in-Ok-clause-image : goal.returns-in-Ok-clause-image
returns-in-Ok-clause-image c =
    let again = ap lines_of c.deref-in-Ok.ensures.value ∙ c.in_ok-lines.ensures.lines in
    c.in_ok-assemble_lines-in-Ok.ensures ∙ ap image_of again

pub returns-in-Ok-clause-says : goal.returns-in-Ok-clause-says
returns-in-Ok-clause-says c =
    said_for _ c.args.program.now (words_of c.args.names.now) c.args.bytes.now (ap lines_of c.deref.ensures.value ∙ c.in_ok-lines.ensures.lines) ∙ c.in-Ok.ensures.exact

pub returns-in-Ok-clause-script : goal.returns-in-Ok-clause-script
returns-in-Ok-clause-script c =
    let same = ap lines_of c.deref.ensures.value ∙ c.in_ok-lines.ensures.lines in
    let again = ap lines_of c.deref-in-Ok.ensures.value ∙ c.in_ok-lines.ensures.lines in
    let image = c.in_ok-assemble_lines-in-Ok.ensures ∙ ap image_of again in
    subst (λ (i : ImageParts). IsScriptFor i.text c.in-Ok.commands.items) (ap image_of same ∙ sym image) c.in-Ok.ensures.for_text

-- it has a fault
pub returns-in-Err-Fault-clause-refused : goal.returns-in-Err-Fault-clause-refused
returns-in-Err-Fault-clause-refused c =
    let fault = c.in-Err-Fault.fault in
    let names = words_of c.args.names.now in
    let said = said_for _ c.args.program.now names c.args.bytes.now (ap lines_of c.deref.ensures.value ∙ c.in_ok-lines.ensures.lines) in
    let note = c.deref-in-Err-Fault.ensures.value ∙ c.in_ok-note-in-Err-Fault.ensures in
    line_told (IsDueToScript c.args.script.now c.args.bytes.now names c.args.program.now) Status.Unfit (script_note c.args.script.now fault)
    c.refuse_by_line.result (placed_line (shown c.args.script.now) (decimal fault.line) (script_words fault.kind))
    (fault, said ∙ (rw c.in-Err-Fault.field-0-is at c.in-Err-Fault.ensures.exact), refl, refl) (rw note at c.refuse_by_line.ensures)
