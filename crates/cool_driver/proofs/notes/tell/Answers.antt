use Rattle.std.proofs.Common.{List, ℕ, refl, sym, inr, subst}
use Rattle.std.specs.Prelude.{Option}
use Rattle.cool_ports.specs.SinkBytes.{GotPrefix}
use Rattle.cool_ports.proofs.GettingBytes.{appended-nil}
use Rattle.cool_driver.proofs.LinesOfNotes.{some_line}
use Rattle.cool_driver.proofs.notes.tell.Goals as goal

-- the note is not empty
pub put-requires : goal.put-requires
put-requires g c = some_line c.args.note.now c.requires

-- it was written
pub returns-in-Ok-clause-lines : goal.returns-in-Ok-clause-lines
returns-in-Ok-clause-lines g c = (_, c.put.ensures.puts, (c.requires, tt))

-- the write failed
pub returns-in-Err-clause-noted : goal.returns-in-Err-clause-noted
returns-in-Err-clause-noted g c =
    let put = c.in-Err.ensures in
    let part = subst (λ (held : Option (List ℕ)). GotPrefix held c.args.note.now (g.E.Sink.held c.put.new.self)) (sym (appended-nil (g.E.Sink.held c.args.notes.now))) put.prefix in
    inr (refl, (part, put.failed))

pub returns-in-Err-clause-lines : goal.returns-in-Err-clause-lines
returns-in-Err-clause-lines g c = (_, c.put.ensures.puts, (c.requires, tt))
