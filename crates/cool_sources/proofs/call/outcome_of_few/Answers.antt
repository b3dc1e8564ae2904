-- `outcome_of_few` returns the answer of the task if all files were read, and otherwise a message about the file that was refused.
use Rattle.std.proofs.Common.{◌∙◌, ℕ, List, ap, map, refl, subst}
use Rattle.std.specs.Prelude.{string_bytes}
use Rattle.std.specs.Global.{Vec}
use Rattle.cool_sources.specs.Devices.{shelf_use}
use Rattle.cool_sources.specs.Notes.{note_text}
use Rattle.cool_sources.specs.Tasks.IsDue.{answered, unread}
use Rattle.cool_faults.specs.Files.{bytes_of}
use Rattle.cool_sources.proofs.OutcomesDue.{due_as, few_of}
use Rattle.cool_sources.proofs.call.outcome_of_few.Goals as goal

-- the files were read
pub returns-in_ok-answer-in-Ok-clause-is : goal.returns-in_ok-answer-in-Ok-clause-is
returns-in_ok-answer-in-Ok-clause-is g c =
    let task = g.T.Task.spec c.args.task.now in
    let shelf = shelf_use g.F.Shelf.files g.F.Shelf.faults g.F.Shelf.asked g.F.Shelf.gave c.args.files.now c.read_files.new.files in
    due_as task shelf (map string_bytes c.args.names.now) _ _ _ _ _ _ c.verdict.ensures.status refl refl
    (answered c.requires.call (few_of c.args.names.now c.requires.few) (bytes_of c.in-Ok.contents.items) c.in_ok-answer-in-Ok.answer c.in-Ok.ensures.read c.in-Ok.ensures.calm
    (subst (λ (contents : List (Vec ℕ)). task.is_answer (map string_bytes c.args.names.now) (bytes_of contents) c.in_ok-answer-in-Ok.answer)
    c.deref.ensures.value c.in_ok-answer-in-Ok.ensures))

-- a file was refused
pub returns-in_ok-note-in-Err-Refused-clause-is : goal.returns-in_ok-note-in-Err-Refused-clause-is
returns-in_ok-note-in-Err-Refused-clause-is g c =
    let task = g.T.Task.spec c.args.task.now in
    let shelf = shelf_use g.F.Shelf.files g.F.Shelf.faults g.F.Shelf.asked g.F.Shelf.gave c.args.files.now c.read_files.new.files in
    let refused = c.in-Err-Refused in
    let stop = rw refused.field-0-is at refused.ensures.stop in
    due_as task shelf (map string_bytes c.args.names.now) _ _ _ _ _ _ c.noted.ensures.status c.noted.ensures.text
    (ap note_text c.noted.ensures.note ∙ c.in_ok-note-in-Err-Refused.ensures task.program c.notes.ensures)
    (unread c.requires.call (few_of c.args.names.now c.requires.few) refused.name.now refused.fault stop)
