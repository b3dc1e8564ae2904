use Rattle.std.proofs.Common.{◌≡◌, ◌+◌, ◌<◌, arith, ap, sym, subst, ◌∙◌}
use Rattle.spim_machine.specs.MachineStates.{MachineParts}
use Rattle.spim_machine.proofs.PartsOfMachines.{a0_of, memory_of}
use Rattle.spim_machine.proofs.MovingBreak.{Moves, break_moved, break_stayed}
use Rattle.spim_machine.proofs.machine.Machine.sbrk.Goals as goal
use Rattle.spim_machine.proofs.machine.Machine.sbrk.Goals.{in_default-via-in-Some+else-new-heap_end, in_default-via-in_default}

pub returns-in-Some-clause-does : goal.returns-in-Some-clause-does
returns-in-Some-clause-does c =
    let inside = c.self.inside in
    let m : MachineParts = record { cpu = inside.cpu; heap_break = inside.heap_break; ended = inside.ended; halted = inside.halted } in
    subst (λ (m : MachineParts). Moves m c.answer.new.self) c.self.view_is
    (break_moved m c.answer.new.self c.memory.result.now c.a0.result c.heap_end-heap_end.result c.in-Some.new
    (c.a0.ensures ∙ ap a0_of (sym c.self.view_is)) c.memory.ensures c.heap_end-heap_end.ensures c.in-Some.ensures.1 c.if-new-heap_end.true
    c.answer.ensures.core c.answer.ensures.heap_break c.answer.ensures.ended)

pub returns-in_default-clause-does : goal.returns-in_default-clause-does
returns-in_default-clause-does c =
    let same : c.self.inside.heap_break ≡ c.args.self.now.heap_break = ap (λ (m : MachineParts). m.heap_break) c.self.view_is in
    let past : c.heap_end-heap_end.result < c.args.self.now.heap_break + c.a0.result = elim c.in_default.branch [
      | in_default-via-in-Some+else-new-heap_end w ↦ omega (arith, w.in-Some.ensures)
      | in_default-via-in_default w ↦ omega (arith, w.in_default.ensures)
    ] in
    break_stayed c.args.self.now c.answer-in_default.new.self c.memory.result.now c.a0.result c.heap_end-heap_end.result
    c.a0.ensures (c.memory.ensures ∙ ap memory_of c.self.view_is) c.heap_end-heap_end.ensures past
    c.answer-in_default.ensures.core c.answer-in_default.ensures.heap_break c.answer-in_default.ensures.ended
