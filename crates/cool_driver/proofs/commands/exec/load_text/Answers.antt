use Rattle.std.proofs.Common.{inr, refl, ◌∙◌}
use Rattle.cool_faults.specs.Shown.{shown}
use Rattle.cool_driver.specs.{Notes.{asm_note}, commands.Exec.{IsDueToBytes}, declared.status.Status.{Status}}
use Rattle.cool_driver.proofs.{LinesOfNotes.{placed_line}, RefusalsTold.{line_told}}
use Rattle.cool_driver.proofs.commands.exec.load_text.Goals as goal

-- the text is assembled
pub returns-in-Ok-clause-image : goal.returns-in-Ok-clause-image
returns-in-Ok-clause-image c =
    let lines = c.in-Ok.ensures in
    inr (record { text = c.requires.text; lines = lines.0; reads = lines.1; no_fault = lines.2; image_is = lines.3 })

-- it has a fault
pub returns-in_ok-note-in-Err-Fault-clause-refused : goal.returns-in_ok-note-in-Err-Fault-clause-refused
returns-in_ok-note-in-Err-Fault-clause-refused c =
    let fault = c.in-Err-Fault.fault in
    let wrong = rw c.in-Err-Fault.field-0-is at c.in-Err-Fault.ensures in
    line_told (IsDueToBytes c.args.name.now c.args.bytes.now) Status.Unfit (asm_note c.args.name.now fault) c.refuse_by_line.result
    (placed_line (shown c.args.name.now) _ _) (refl, inr (fault, refl, c.requires.text, wrong))
    (rw (c.deref.ensures.value ∙ c.in_ok-note-in-Err-Fault.ensures) at c.refuse_by_line.ensures)
