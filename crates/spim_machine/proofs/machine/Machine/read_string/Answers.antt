use Rattle.std.proofs.Common.{◌∙◌, sym, ap, Some}
use Rattle.mips_isa.specs.Calls.{all_writable}
use Rattle.spim_memory.specs.Memory.{segments}
use Rattle.cool_ports.proofs.InputsInParts.{leaves_same}
use Rattle.spim_machine.proofs.ReadingStrings.{small_is, does_nothing, does_trap, does_fill, does_unfilled}
use Rattle.spim_machine.proofs.machine.Machine.read_string.Goals as goal

pub returns-then-cast_signed-lt1-clause-does : goal.returns-then-cast_signed-lt1-clause-does
returns-then-cast_signed-lt1-clause-does g c =
    let small = small_is _ _ _ c.a1-size.type_inv c.cast_signed.ensures c.if-cast_signed-lt1.true in
    λ held input rest leaves. rw (leaves_same _ input rest leaves) (does_nothing (segments c.args.self.now.cpu.memory) c.args.self.now c.a0-address.result c.a1-size.result c.a0-address.ensures c.a1-size.ensures small (Some input) held)

pub returns-then-not-may_store-clause-does : goal.returns-then-not-may_store-clause-does
returns-then-not-may_store-clause-does g c =
    let small = small_is _ _ _ c.a1-size.type_inv c.cast_signed.ensures c.if-cast_signed-lt1.false in
    let memory = c.memory.ensures ∙ ap (λ m. m.cpu.memory) c.self.view_is in
    let may = ap (λ m. all_writable (segments m) c.a0-address.result c.a1-size.result) (sym memory) ∙ sym c.if-not-may_store.ensures.writable in
    λ held input rest leaves. rw (leaves_same _ input rest leaves) (does_trap (segments c.args.self.now.cpu.memory) c.args.self.now c.a0-address.result c.a1-size.result c.a0-address.ensures c.a1-size.ensures small may _ c.bad_address.ensures (Some input) held)

pub returns-in-Ok-clause-does : goal.returns-in-Ok-clause-does
returns-in-Ok-clause-does g c =
    let small = small_is _ _ _ c.a1-size.type_inv c.cast_signed.ensures c.if-cast_signed-lt1.false in
    let memory = c.memory.ensures ∙ ap (λ m. m.cpu.memory) c.self.view_is in
    let may = ap (λ m. all_writable (segments m) c.a0-address.result c.a1-size.result) (sym memory) ∙ sym c.if-not-may_store.ensures.writable in
    λ held input rest leaves. does_fill (segments c.args.self.now.cpu.memory) c.args.self.now c.a0-address.result c.a1-size.result c.a0-address.ensures c.a1-size.ensures c.fill.new.self _ _ small may (c.in-Ok.ensures.all input rest leaves) c.in-Ok.ensures.heap_break held

pub returns-in-Err-clause-does : goal.returns-in-Err-clause-does
returns-in-Err-clause-does g c =
    let small = small_is _ _ _ c.a1-size.type_inv c.cast_signed.ensures c.if-cast_signed-lt1.false in
    let memory = c.memory.ensures ∙ ap (λ m. m.cpu.memory) c.self.view_is in
    let may = ap (λ m. all_writable (segments m) c.a0-address.result c.a1-size.result) (sym memory) ∙ sym c.if-not-may_store.ensures.writable in
    λ held input rest leaves. does_unfilled (segments c.args.self.now.cpu.memory) c.args.self.now c.a0-address.result c.a1-size.result c.a0-address.ensures c.a1-size.ensures c.fill.new.self _ _ small may (c.in-Err.ensures.some input rest leaves) c.in-Err.ensures.heap_break held
