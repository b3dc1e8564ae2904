use Rattle.std.proofs.Common.{Err, Ok, ap, refl, ◌∙◌}
use Rattle.cool_session.specs.declared.ending.Ending.{Ending}
use Rattle.cool_driver.proofs.{DevicesOfCalls.{IsNoted, finished_goes, got_nothing, is_noted}, rooms.Sessions.{came_to_end, cut_by_memory, cut_by_read, cut_by_write, noted_end}}
use Rattle.cool_driver.proofs.commands.session.hold_session.Goals as goal

pub returns-in-Ok-Over-clause-ends : goal.returns-in-Ok-Over-clause-ends
returns-in-Ok-Over-clause-ends g c r rest is leaves =
    let end = c.in-Ok-Over.is ∙ ap Ok c.in-Ok-Over.field-0-is in
    finished_goes (came_to_end is (c.converse.ensures.conversed r.input rest leaves) c.converse.ensures.counts Ending.Over end) (IsNoted.noted (got_nothing _ _))

pub returns-in-Ok-BadCommand-clause-ends : goal.returns-in-Ok-BadCommand-clause-ends
returns-in-Ok-BadCommand-clause-ends g c r rest is leaves =
    noted_end is (c.converse.ensures.conversed r.input rest leaves) c.converse.ensures.counts (Ending.BadCommand c.in-Ok-BadCommand.number) _
    (c.in-Ok-BadCommand.is ∙ ap Ok c.in-Ok-BadCommand.field-0-is) refl c.tell_command.ensures.noted

pub returns-in-Ok-EndsInFile-clause-ends : goal.returns-in-Ok-EndsInFile-clause-ends
returns-in-Ok-EndsInFile-clause-ends g c r rest is leaves =
    noted_end is (c.converse.ensures.conversed r.input rest leaves) c.converse.ensures.counts (Ending.EndsInFile c.in-Ok-EndsInFile.number) _
    (c.in-Ok-EndsInFile.is ∙ ap Ok c.in-Ok-EndsInFile.field-0-is) refl c.tell_command-in-Ok-EndsInFile.ensures.noted

pub returns-in-Ok-TooLarge-clause-ends : goal.returns-in-Ok-TooLarge-clause-ends
returns-in-Ok-TooLarge-clause-ends g c r rest is leaves =
    noted_end is (c.converse.ensures.conversed r.input rest leaves) c.converse.ensures.counts (Ending.TooLarge c.in-Ok-TooLarge.number) _
    (c.in-Ok-TooLarge.is ∙ ap Ok c.in-Ok-TooLarge.field-0-is) refl c.tell_command-in-Ok-TooLarge.ensures.noted

-- a read failed
pub returns-in-Err-ReadFault-clause-ends : goal.returns-in-Err-ReadFault-clause-ends
returns-in-Err-ReadFault-clause-ends g c r rest is leaves =
    let end = c.in-Err-ReadFault.is ∙ ap Err c.in-Err-ReadFault.field-0-is in
    finished_goes (cut_by_read is (c.converse.ensures.conversed r.input rest leaves) c.converse.ensures.counts end) (is_noted c.tell.ensures.noted)

-- a write failed
pub returns-in-Err-WriteFault-clause-ends : goal.returns-in-Err-WriteFault-clause-ends
returns-in-Err-WriteFault-clause-ends g c r rest is leaves =
    let end = c.in-Err-WriteFault.is ∙ ap Err c.in-Err-WriteFault.field-0-is in
    cut_by_write is (c.converse.ensures.conversed r.input rest leaves) c.converse.ensures.counts end (got_nothing _ _)

-- memory ran out
pub returns-in-Err-Memory-clause-ends : goal.returns-in-Err-Memory-clause-ends
returns-in-Err-Memory-clause-ends g c r rest is leaves =
    let end = c.in-Err-Memory.is ∙ ap Err c.in-Err-Memory.field-0-is in
    cut_by_memory is (c.converse.ensures.conversed r.input rest leaves) c.converse.ensures.counts end (got_nothing _ _)
