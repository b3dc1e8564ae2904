use Rattle.std.proofs.Common.{refl}
use Rattle.cool_driver.specs.Sources.{IsNoProgram}
use Rattle.cool_driver.proofs.{ComesOfRefusals.{DueToRefusal, refusal_goes}, DevicesOfCalls.{got_nothing}, Doings.{unrefused_does, untaking_does}, RefusalsTold.{has_lines}, rooms.Runnings.{ran_goes, unrun_ends}}
use Rattle.cool_driver.proofs.commands.run.run_files.Goals as goal

-- the files are a program
pub returns-in-Ok : goal.returns-in-Ok
returns-in-Ok g c =
    let compiled = rw c.deref.ensures.value at c.compile_files.ensures in
    let is = rw c.deref.ensures.value at c.in-Ok.ensures.image in
    let run = c.execute.ensures in
    unrefused_does compiled.kept compiled.asked run.lines run.other run.taken (λ words given rest leaves.
    ran_goes (record { p = is.p; is = is.is; for = is.for; bounded = c.requires.limits }) (run.puts given rest leaves) (run.ends _ rest is.is.read.calm leaves))

-- no line of the refusal is empty
pub tell_refusal-requires : goal.tell_refusal-requires
tell_refusal-requires g c = has_lines (IsNoProgram _ _) _ c.in-Err.ensures.refused

-- they are none
pub returns-in-Err : goal.returns-in-Err
returns-in-Err g c =
    let compiled = rw c.deref.ensures.value at c.compile_files.ensures in
    let told = c.tell_refusal.ensures in
    untaking_does compiled.kept compiled.asked told.lines (told.put _ _ (rw c.deref.ensures.value at c.in-Err.ensures.lined)) (λ words given.
    refusal_goes _ c.in-Err.refusal c.tell_refusal.result (λ s. unrun_ends refl) DueToRefusal.refused compiled.count refl refl (got_nothing _ _)
    (rw c.deref.ensures.value at c.in-Err.ensures.refused) told.noted)
