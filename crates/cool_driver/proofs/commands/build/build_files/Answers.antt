use Rattle.std.proofs.Common.{refl}
use Rattle.cool_driver.specs.{Sources.{IsNoProgram}, commands.Build.{DueToBuild, PiecesOfBuild}}
use Rattle.cool_driver.proofs.{ComesOfRefusals.{DueToRefusal, put_goes, refusal_goes}, DevicesOfCalls.{got_nothing}, Doings.{untaking_does}, LinesOfNotes.{no_lines}, RefusalsTold.{has_lines}, rooms.Builds.{made_goes, unbuilt_ends}}
use Rattle.cool_driver.proofs.commands.build.build_files.Goals as goal

-- the bytes were made
pub returns-in-Ok : goal.returns-in-Ok
returns-in-Ok g c input =
    let (p, is, means, made) = c.in-Ok.ensures.built in
    let wrote = c.write_pieces.ensures in
    untaking_does c.make_bytes.ensures.kept c.make_bytes.ensures.asked (no_lines _) (λ one. absurd (wrote.other one)) (λ words given.
    made_goes is (rw (c.deref.ensures.value, made) at wrote.put)
    (put_goes (λ s comes. comes) is.read.calm refl (DueToBuild.built p is means) (PiecesOfBuild.of_program p is) (got_nothing _ _)
    (rw (c.deref.ensures.value, made) at wrote.noted)))

-- no line of the refusal is empty
pub tell_refusal-requires : goal.tell_refusal-requires
tell_refusal-requires g c = has_lines (IsNoProgram _ _) _ c.in-Err.ensures.refused

-- they were not
pub returns-in-Err : goal.returns-in-Err
returns-in-Err g c input =
    let made = c.make_bytes.ensures in
    let told = c.tell_refusal.ensures in
    untaking_does made.kept made.asked told.lines (told.put _ _ c.in-Err.ensures.lined) (λ words given.
    refusal_goes _ c.in-Err.refusal c.tell_refusal.result (λ s. unbuilt_ends refl) DueToRefusal.refused made.count refl refl (got_nothing _ _)
    c.in-Err.ensures.refused told.noted)
