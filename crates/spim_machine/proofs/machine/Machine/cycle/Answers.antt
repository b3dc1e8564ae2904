use Rattle.spim_machine.specs.MachineStates.{MachineParts}
use Rattle.cool_ports.proofs.InputsInParts.{leaves_same}
use Rattle.spim_machine.proofs.Cycles.{cycled_next, cycled_call, cycled_trap}
use Rattle.spim_machine.proofs.PutsOfRuns.{next_put, call_put, trap_put}
use Rattle.spim_machine.proofs.machine.Machine.cycle.Goals as goal

pub returns-in-Next-clause-cycled : goal.returns-in-Next-clause-cycled
returns-in-Next-clause-cycled g c =
    let i = c.self.inside in
    let old : MachineParts = record { cpu = i.cpu; heap_break = i.heap_break; ended = i.ended; halted = i.halted } in
    rw (← c.self.view_is) (λ first s input rest leaves is. rw (leaves_same _ input rest leaves) (cycled_next _ _ old c.step.new.self first s _ _ c.in-Next.ensures.stepped is))

pub returns-in-Call-clause-cycled : goal.returns-in-Call-clause-cycled
returns-in-Call-clause-cycled g c =
    let i = c.self.inside in
    let old : MachineParts = record { cpu = i.cpu; heap_break = i.heap_break; ended = i.ended; halted = i.halted } in
    rw (← c.self.view_is) (λ first s input rest leaves is. cycled_call _ _ _ old c.step.new.self first s _ _ _ _ _ _ c.in-Call.ensures.stepped c.step.ensures.segments.segments is (c.call.ensures.does input rest leaves))

pub returns-in-Trap-clause-cycled : goal.returns-in-Trap-clause-cycled
returns-in-Trap-clause-cycled g c =
    let i = c.self.inside in
    let old : MachineParts = record { cpu = i.cpu; heap_break = i.heap_break; ended = i.ended; halted = i.halted } in
    rw (← c.self.view_is) (λ first s input rest leaves is. rw (leaves_same _ input rest leaves) (cycled_trap _ _ old c.step.new.self c.in-Trap.trap first s _ _ c.in-Trap.ensures.stepped is))

pub returns-in-Next-clause-puts : goal.returns-in-Next-clause-puts
returns-in-Next-clause-puts g c = rw (← c.self.view_is) (next_put _ _ _ _ _ c.in-Next.ensures.stepped)

pub returns-in-Call-clause-puts : goal.returns-in-Call-clause-puts
returns-in-Call-clause-puts g c = rw (← c.self.view_is) (call_put _ _ _ _ _ _ _ _ c.step.ensures.segments.segments c.in-Call.ensures.stepped c.call.ensures.puts)

pub returns-in-Trap-clause-puts : goal.returns-in-Trap-clause-puts
returns-in-Trap-clause-puts g c = rw (← c.self.view_is) (trap_put _ _ _ _ _ _ c.in-Trap.ensures.stepped)
