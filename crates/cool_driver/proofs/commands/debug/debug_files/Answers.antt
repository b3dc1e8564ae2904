use Rattle.std.proofs.Common.{refl}
use Rattle.cool_driver.specs.commands.Debug.{DebugComes, DueToUndebugged, IsNoDebuggee}
use Rattle.cool_driver.proofs.{ComesOfRefusals.{goes_map, told_goes}, DevicesOfCalls.{got_nothing}, Doings.{unrefused_does, untaking_does}, RefusalsTold.{has_lines}, rooms.Debuggings.{debug_ends, undebugged_status}}
use Rattle.cool_driver.proofs.commands.debug.debug_files.Goals as goal

-- an image is debugged
pub returns-in-Ok : goal.returns-in-Ok
returns-in-Ok g c =
    let debuggee = rw (← c.deref.ensures.value) at c.in-Ok.ensures.debuggee in
    let run = c.debug_image.ensures in
    unrefused_does c.read_debuggee.ensures.kept c.read_debuggee.ensures.asked run.lines run.other run.taken (λ words given rest leaves.
    goes_map (λ goes. debug_ends (DebugComes.debugs _ _ debuggee c.requires.limits goes)) (run.ends _ rest debuggee.is.read.calm leaves))

-- no line of the refusal is empty
pub tell_refusal-requires : goal.tell_refusal-requires
tell_refusal-requires g c = has_lines (IsNoDebuggee _ _ _) _ c.in-Err.ensures.refused

-- none is
pub returns-in-Err : goal.returns-in-Err
returns-in-Err g c =
    let read = c.read_debuggee.ensures in
    let told = c.tell_refusal.ensures in
    untaking_does read.kept read.asked told.lines (told.put _ _ c.in-Err.ensures.lined) (λ words given.
    told_goes (IsNoDebuggee _ _ _) c.in-Err.refusal c.tell_refusal.result (λ s comes. debug_ends (DebugComes.refused comes)) DueToUndebugged.undebugged (λ s n. undebugged_status)
    read.count refl refl (got_nothing _ _) c.in-Err.ensures.refused told.noted)
