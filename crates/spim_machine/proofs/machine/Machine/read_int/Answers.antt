use Rattle.std.proofs.Common.{refl}
use Rattle.mips_isa.specs.Calls.{asked_line, number_of}
use Rattle.spim_machine.specs.Ends.{stores_none}
use Rattle.spim_machine.proofs.ReadingCalls.{put_v0, does_number, does_failed}
use Rattle.spim_machine.proofs.machine.Machine.read_int.Goals as goal

pub returns-in-Ok-clause-does : goal.returns-in-Ok-clause-does
returns-in-Ok-clause-does g c =
    let m = c.self.inside in
    rw (← c.self.view_is) (λ held input rest leaves. does_number number_of asked_line (record { cpu = m.cpu; heap_break = m.heap_break; ended = m.ended; halted = m.halted }) _ _ _ _ _ (c.in-Ok.ensures.all input rest leaves) c.answer.ensures.ended c.answer.ensures.core c.answer.ensures.heap_break held)

pub returns-in-Err-clause-does : goal.returns-in-Err-clause-does
returns-in-Err-clause-does g c =
    let m = c.self.inside in
    rw (← c.self.view_is) (λ held input rest leaves.
    let failed = c.in-Err.ensures.some input rest leaves in
    does_failed (put_v0 number_of) asked_line stores_none (record { cpu = m.cpu; heap_break = m.heap_break; ended = m.ended; halted = m.halted })
    (record { cpu = m.cpu; heap_break = m.heap_break; ended = c.read_number.new.ended; halted = m.halted }) _ _ failed.0 failed.1 failed.2 failed.3 (λ input output. refl) refl held)
