use Rattle.std.proofs.Common.{List, ℕ, refl, sym, inr, subst}
use Rattle.std.specs.Prelude.{Option}
use Rattle.cool_ports.specs.SinkBytes.{GotPrefix}
use Rattle.cool_ports.proofs.GettingBytes.{appended-nil}
use Rattle.cool_driver.proofs.PutsOfCalls.{put_cut, put_whole}
use Rattle.cool_driver.proofs.writing.write_pieces.Goals as goal

-- all pieces were put
pub returns-in-Ok-clause-put : goal.returns-in-Ok-clause-put
returns-in-Ok-clause-put g c = put_whole c.in-Ok.ensures.pieces

-- a write failed
pub returns-in-Err-clause-put : goal.returns-in-Err-clause-put
returns-in-Err-clause-put g c = put_cut c.in-Err.ensures.pieces_up_to

pub returns-in-Err-clause-noted : goal.returns-in-Err-clause-noted
returns-in-Err-clause-noted g c =
    let put = c.in-Err.ensures in
    let part =
    subst (λ (held : Option (List ℕ)). GotPrefix held c.args.bytes.now (g.O.Sink.held c.put_pieces.new.sink))
    (sym (appended-nil (g.O.Sink.held c.args.out.now))) put.prefix in
    inr (refl, (part, put.failed))
