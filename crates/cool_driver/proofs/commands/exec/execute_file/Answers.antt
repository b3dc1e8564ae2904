use Rattle.std.proofs.Common.{refl}
use Rattle.cool_driver.specs.commands.Exec.{IsNoImage}
use Rattle.cool_driver.proofs.{ComesOfRefusals.{DueToRefusal, told_goes}, DevicesOfCalls.{got_nothing}, Doings.{unrefused_does, untaking_does}, RefusalsTold.{has_lines}, rooms.Executions.{no_image_status, ran_goes, unloaded_ends}}
use Rattle.cool_driver.proofs.commands.exec.execute_file.Goals as goal

-- the file stands for an image
pub returns-in-Ok : goal.returns-in-Ok
returns-in-Ok g c =
    let is = c.in-Ok.ensures.image in
    let run = c.execute.ensures in
    unrefused_does c.load_file.ensures.kept c.load_file.ensures.asked run.lines run.other run.taken (λ words given rest leaves.
    ran_goes is (run.puts given rest leaves) (run.ends _ rest is.read.calm leaves))

-- no line of the refusal is empty
pub tell_refusal-requires : goal.tell_refusal-requires
tell_refusal-requires g c = has_lines (IsNoImage _ _) _ c.in-Err.ensures.refused

-- it stands for none
pub returns-in-Err : goal.returns-in-Err
returns-in-Err g c =
    let loaded = c.load_file.ensures in
    let told = c.tell_refusal.ensures in
    untaking_does loaded.kept loaded.asked told.lines (λ _. tt) (λ words given.
    told_goes (IsNoImage _ _) c.in-Err.refusal c.tell_refusal.result (λ s. unloaded_ends refl) DueToRefusal.refused (λ s n. no_image_status) loaded.count refl refl
    (got_nothing _ _) c.in-Err.ensures.refused told.noted)
