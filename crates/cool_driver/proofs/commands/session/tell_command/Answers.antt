use Rattle.std.proofs.Common.{inr, refl, ◌∙◌}
use Rattle.cool_driver.proofs.{DevicesOfCalls.{got_nothing}, LinesOfNotes.{command_line, no_lines}}
use Rattle.cool_driver.proofs.commands.session.tell_command.Goals as goal

-- the note is a line
pub tell-requires : goal.tell-requires
tell-requires g c = rw (c.as_bytes.ensures.value ∙ c.in-Ok.ensures) (command_line c.args.number c.args.words.now)

-- memory ran out for the note
pub returns-in-Err : goal.returns-in-Err
returns-in-Err g c = record { noted = inr (refl, got_nothing _ _); lines = no_lines _ }
