use Rattle.std.proofs.Common.{[], arith, refl}
use Rattle.cool_driver.specs.{Comes.{Comes}, Sources.{IsNoProgram}, commands.Check.{DueToCheck}}
use Rattle.cool_driver.proofs.{ComesOfRefusals.{refusal_goes}, DevicesOfCalls.{done_goes, got_nothing}, Doings.{untaking_does}, LinesOfNotes.{no_lines}, RefusalsTold.{has_lines}, rooms.Checks.{check_ends}}
use Rattle.cool_driver.proofs.commands.check.check_files.Goals as goal

-- the files are a program
pub returns-in-Ok : goal.returns-in-Ok
returns-in-Ok g c input out =
    let read = c.read_program.ensures in
    untaking_does read.kept read.asked (no_lines _) (λ one. absurd (omega (arith, one))) (λ words given.
    done_goes c.in-Ok.ensures.program.read.calm refl (got_nothing _ _) (got_nothing _ _)
    (check_ends (Comes.written 0 [] [] (DueToCheck.accepted _ c.in-Ok.ensures.program) (got_nothing _ _) (got_nothing _ _))))

-- no line of the refusal is empty
pub tell_refusal-requires : goal.tell_refusal-requires
tell_refusal-requires g c = has_lines (IsNoProgram _ _) _ c.in-Err.ensures.refused

-- they are none
pub returns : goal.returns
returns g c input out =
    let read = c.read_program.ensures in
    untaking_does read.kept read.asked c.tell_refusal.ensures.lines (c.tell_refusal.ensures.put _ _ c.in-Err.ensures.lined) (λ words given.
    refusal_goes _ c.in-Err.refusal c.tell_refusal.result (λ s. check_ends) DueToCheck.refused read.count refl refl (got_nothing _ _)
    c.in-Err.ensures.refused c.tell_refusal.ensures.noted)
