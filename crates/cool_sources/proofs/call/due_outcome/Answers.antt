-- `due_outcome` returns the specified outcome: a message if the arguments are invalid or there are too many files, and otherwise the result of
-- `outcome_of_few`.
use Rattle.std.proofs.Common.{◌∙◌, ap, inl, inr, map, refl, sym}
use Rattle.std.specs.Prelude.{string_bytes}
use Rattle.cool_sources.specs.Devices.{shelf_use}
use Rattle.cool_sources.specs.Notes.{note_text}
use Rattle.cool_sources.specs.Tasks.IsDue.{memory, too_many, usage}
use Rattle.cool_sources.proofs.OutcomesDue.{due_as, few_of, is_call, many_of, no_names, some_names, unused}
use Rattle.cool_sources.proofs.call.due_outcome.Goals as goal

-- there is no name
pub returns-then-is_empty-clause-is : goal.returns-then-is_empty-clause-is
returns-then-is_empty-clause-is g c =
    let shelf = shelf_use g.F.Shelf.files g.F.Shelf.faults g.F.Shelf.asked g.F.Shelf.gave c.args.files.now c.args.files.now in
    due_as (g.T.Task.spec c.args.task.now) shelf (map string_bytes c.args.names.now) _ _ _ _ _ _ c.noted.ensures.status c.noted.ensures.text
    (ap note_text c.noted.ensures.note ∙ c.notes.ensures.usage)
    (usage (inl (ap (map string_bytes) (no_names c.args.names.now c.if-is_empty.ensures))) (unused shelf refl refl refl))

-- the names are not accepted
pub returns-then-not-accepts-clause-is : goal.returns-then-not-accepts-clause-is
returns-then-not-accepts-clause-is g c =
    let shelf = shelf_use g.F.Shelf.files g.F.Shelf.faults g.F.Shelf.asked g.F.Shelf.gave c.args.files.now c.args.files.now in
    due_as (g.T.Task.spec c.args.task.now) shelf (map string_bytes c.args.names.now) _ _ _ _ _ _ c.noted-then-not-accepts.ensures.status c.noted-then-not-accepts.ensures.text
    (ap note_text c.noted-then-not-accepts.ensures.note ∙ c.notes-then-not-accepts.ensures.usage)
    (usage (inr (sym c.accepts.ensures ∙ c.if-not-accepts.true)) (unused shelf refl refl refl))

-- there are too many files
pub returns-then-names-gt-MOST_FILES-clause-is : goal.returns-then-names-gt-MOST_FILES-clause-is
returns-then-names-gt-MOST_FILES-clause-is g c =
    let task = g.T.Task.spec c.args.task.now in
    let shelf = shelf_use g.F.Shelf.files g.F.Shelf.faults g.F.Shelf.asked g.F.Shelf.gave c.args.files.now c.args.files.now in
    due_as task shelf (map string_bytes c.args.names.now) _ _ _ _ _ _ c.noted-then-names-gt-MOST_FILES.ensures.status c.noted-then-names-gt-MOST_FILES.ensures.text
    (ap note_text c.noted-then-names-gt-MOST_FILES.ensures.note ∙ c.notes-then-names-gt-MOST_FILES.ensures.too_many)
    (too_many (is_call task c.args.names.now (some_names c.args.names.now c.if-is_empty.ensures) (sym c.accepts.ensures ∙ c.if-not-accepts.false))
    (many_of c.args.names.now c.if-names-gt-MOST_FILES.true) (unused shelf refl refl refl))

-- memory ran out
pub returns-in-Err-clause-is : goal.returns-in-Err-clause-is
returns-in-Err-clause-is g c =
    let task = g.T.Task.spec c.args.task.now in
    let shelf = shelf_use g.F.Shelf.files g.F.Shelf.faults g.F.Shelf.asked g.F.Shelf.gave c.args.files.now c.outcome_of_few.new.files in
    due_as task shelf (map string_bytes c.args.names.now) _ _ _ _ _ _ c.noted-in-Err.ensures.status c.noted-in-Err.ensures.text (ap note_text c.noted-in-Err.ensures.note)
    (memory (is_call task c.args.names.now (some_names c.args.names.now c.if-is_empty.ensures) (sym c.accepts.ensures ∙ c.if-not-accepts.false))
    (few_of c.args.names.now c.if-names-gt-MOST_FILES.false))
