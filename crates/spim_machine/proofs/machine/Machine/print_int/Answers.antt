use Rattle.std.proofs.Common.{◌∙◌, refl, ap, get_or}
use Rattle.std.specs.Fmt.{signed_decimal}
use Rattle.cool_ports.specs.SinkBytes.{appended}
use Rattle.mips_isa.specs.Calls as calls
use Rattle.spim_machine.proofs.Printing.{printed}
use Rattle.spim_machine.proofs.SignedDecimals.{text_of_word, text_not_empty}
use Rattle.spim_machine.proofs.machine.Machine.print_int.Goals as goal

pub put-requires : goal.put-requires
put-requires g c = text_not_empty c.a0.result _ _ c.a0.type_inv c.cast_signed.ensures (c.as_bytes.ensures.value ∙ c.format-decimal.ensures.text)

pub returns-in-Ok-clause-does : goal.returns-in-Ok-clause-does
returns-in-Ok-clause-does g c left =
    let a0 = get_or c.args.self.now.cpu.registers 4 0 in
    let text = text_of_word c.a0.result a0 _ _ c.a0.ensures c.a0.type_inv c.cast_signed.ensures (c.as_bytes.ensures.value ∙ c.format-decimal.ensures.text) in
    printed (λ s. calls.print s (signed_decimal (calls.signed (calls.a0 s)))) c.args.self.now (signed_decimal (calls.signed a0)) left _ _ (λ input output. refl)
    (c.in-Ok.ensures.put ∙ ap (appended (g.K.Sink.held c.args.sink.now)) text)
