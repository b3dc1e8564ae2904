use Rattle.std.proofs.Common.{[], refl, sym}
use Rattle.cool_ports.proofs.GettingBytes.{appended-nil}
use Rattle.cool_ports.proofs.std_sink.StdSinkSink.put.Goals as goal

-- nothing is told to have come
pub returns-then-is_err-clause-prefix : goal.returns-then-is_err-clause-prefix
returns-then-is_err-clause-prefix g c = (c.args.bytes.now, record { front = []; cut = refl; got = sym (appended-nil _) })
