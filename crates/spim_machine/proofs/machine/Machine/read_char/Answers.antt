use Rattle.std.proofs.Common.{refl}
use Rattle.mips_isa.specs.Calls.{asked, char_of}
use Rattle.spim_machine.specs.Ends.{stores_none}
use Rattle.spim_machine.proofs.ReadingCalls.{put_v0, does_number, does_failed}
use Rattle.spim_machine.proofs.machine.Machine.read_char.Goals as goal

pub returns-in-Ok-clause-does : goal.returns-in-Ok-clause-does
returns-in-Ok-clause-does g c =
    let m = c.self.inside in
    rw (← c.self.view_is) (λ held input rest leaves. does_number char_of (λ ended. asked ended 1) (record { cpu = m.cpu; heap_break = m.heap_break; ended = m.ended; halted = m.halted }) _ _ _ _ _ (c.in-Ok.ensures.all input rest leaves) c.answer.ensures.ended c.answer.ensures.core c.answer.ensures.heap_break held)

pub returns-in-Err-clause-does : goal.returns-in-Err-clause-does
returns-in-Err-clause-does g c =
    let m = c.self.inside in
    rw (← c.self.view_is) (λ held input rest leaves.
    let failed = c.in-Err.ensures.some input rest leaves in
    does_failed (put_v0 char_of) (λ ended. asked ended 1) stores_none (record { cpu = m.cpu; heap_break = m.heap_break; ended = m.ended; halted = m.halted })
    (record { cpu = m.cpu; heap_break = m.heap_break; ended = c.read_char.new.ended; halted = m.halted }) _ _ _ failed.0 failed.1 failed.2 (λ input output. refl) refl held)
