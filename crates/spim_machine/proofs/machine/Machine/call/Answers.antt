use Rattle.std.proofs.Common.{◌∙◌, sym, subst, arith, Some}
use Rattle.spim_memory.specs.Memory.{segments}
use Rattle.cool_ports.proofs.InputsInParts.{took_nothing, leaves_same}
use Rattle.spim_machine.proofs.CallsByNumber.{does_print_int, does_print_string, does_read_int, does_read_string, does_sbrk, does_exit, does_print_char, does_read_char, does_exit_with, does_none, IsNoCall}
use Rattle.spim_machine.proofs.machine.Machine.call.Goals as goal

pub returns-in-1-clause-does : goal.returns-in-1-clause-does
returns-in-1-clause-does g c =
    let m = c.args.self.now in
    λ input rest leaves. rw (leaves_same _ input rest leaves) (does_print_int (segments m.cpu.memory) m m _ _ _ _ _ (sym c.v0.ensures ∙ c.in-1.is) (c.print_int.ensures.does (Some input)))

pub returns-in-4-clause-does : goal.returns-in-4-clause-does
returns-in-4-clause-does g c =
    let m = c.args.self.now in
    λ input rest leaves. rw (leaves_same _ input rest leaves) (does_print_string (segments m.cpu.memory) m m _ _ _ _ _ (sym c.v0.ensures ∙ c.in-4.is) (c.print_string.ensures.does (Some input)))

pub returns-in-5-clause-does : goal.returns-in-5-clause-does
returns-in-5-clause-does g c =
    let m = c.args.self.now in
    λ input rest leaves. does_read_int (segments m.cpu.memory) m c.read_int.new.self _ _ _ _ _ (sym c.v0.ensures ∙ c.in-5.is) (c.read_int.ensures.does _ input rest leaves)

pub returns-in-8-clause-does : goal.returns-in-8-clause-does
returns-in-8-clause-does g c =
    let m = c.args.self.now in
    λ input rest leaves. does_read_string (segments m.cpu.memory) m c.read_string.new.self _ _ _ _ _ (sym c.v0.ensures ∙ c.in-8.is) (c.read_string.ensures.does _ input rest leaves)

pub returns-in-9-clause-does : goal.returns-in-9-clause-does
returns-in-9-clause-does g c =
    let m = c.args.self.now in
    λ input rest leaves. rw (leaves_same _ input rest leaves) (does_sbrk (segments m.cpu.memory) m c.sbrk.new.self _ _ (sym c.v0.ensures ∙ c.in-9.is) (c.sbrk.ensures.does _ _))

pub returns-in-10-clause-does : goal.returns-in-10-clause-does
returns-in-10-clause-does g c =
    let m = c.args.self.now in
    λ input rest leaves. rw (leaves_same _ input rest leaves) (does_exit (segments m.cpu.memory) m _ _ (sym c.v0.ensures ∙ c.in-10.is))

pub returns-in-11-clause-does : goal.returns-in-11-clause-does
returns-in-11-clause-does g c =
    let m = c.args.self.now in
    λ input rest leaves. rw (leaves_same _ input rest leaves) (does_print_char (segments m.cpu.memory) m m _ _ _ _ _ (sym c.v0.ensures ∙ c.in-11.is) (c.print_char.ensures.does (Some input)))

pub returns-in-12-clause-does : goal.returns-in-12-clause-does
returns-in-12-clause-does g c =
    let m = c.args.self.now in
    λ input rest leaves. does_read_char (segments m.cpu.memory) m c.read_char.new.self _ _ _ _ _ (sym c.v0.ensures ∙ c.in-12.is) (c.read_char.ensures.does _ input rest leaves)

pub returns-in-17-clause-does : goal.returns-in-17-clause-does
returns-in-17-clause-does g c =
    let m = c.args.self.now in
    λ input rest leaves. rw (leaves_same _ input rest leaves) (does_exit_with (segments m.cpu.memory) m _ _ c.a0.result (sym c.v0.ensures ∙ c.in-17.is) c.a0.ensures)

pub returns-in_default-clause-does : goal.returns-in_default-clause-does
returns-in_default-clause-does g c =
    let m = c.args.self.now in
    let none : IsNoCall c.v0.result = omega arith in
    λ input rest leaves. rw (c.bad_call.ensures, leaves_same _ input rest leaves) (does_none (segments m.cpu.memory) m _ _ (subst IsNoCall c.v0.ensures none))

pub returns-in-9-clause-took : goal.returns-in-9-clause-took
returns-in-9-clause-took g c = rw c.sbrk.ensures.ended (took_nothing _ _ _)
