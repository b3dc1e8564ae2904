use Rattle.std.proofs.Common.{inl, refl, rules, ◌∙◌}
use Rattle.cool_driver.specs.{Notes.{image_note}, commands.Exec.{IsDueToBytes}, declared.status.Status.{Status}}
use Rattle.cool_driver.proofs.{LinesOfNotes.{image_line}, RefusalsTold.{line_told}}
use Rattle.cool_driver.proofs.commands.exec.load_image.Goals as goal

-- the file is an image
pub returns-in-Ok-clause-image : goal.returns-in-Ok-clause-image
returns-in-Ok-clause-image c =
    let read = c.in-Ok.ensures in
    inl (record { bounds = read.image.0; words = read.image.1; version = c.in-Ok.stored.version; known = read.version; bytes_are = read.found })

-- it is none
pub returns-in_ok-note-in-Err-clause-refused : goal.returns-in_ok-note-in-Err-clause-refused
returns-in_ok-note-in-Err-clause-refused c =
    let fault = c.in-Err.fault in
    line_told (IsDueToBytes c.args.name.now c.args.bytes.now) Status.Unfit (image_note c.args.name.now fault) c.refuse_by_line.result
    (image_line c.args.name.now fault c.in_ok-note-in-Err.ensures.fault) (refl, inl (fault, refl, c.requires, search rules))
    (rw (c.deref.ensures.value ∙ c.in_ok-note-in-Err.ensures.note) at c.refuse_by_line.ensures)
