use Rattle.std.proofs.Common.{[], refl, sym, ◌∙◌, ap, Some}
use Rattle.cool_ports.proofs.GettingBytes.{appended-nil}
use Rattle.cool_ports.proofs.mem_sink.MemSinkSink.put.Goals as goal

-- nothing came
pub returns-then-begin_call-clause-prefix : goal.returns-then-begin_call-clause-prefix
returns-then-begin_call-clause-prefix c =
    (c.args.bytes.now, record { front = []; cut = refl; got = ap Some (ap (λ sink. sink.held) c.self.view_is) ∙ sym (appended-nil _) })
