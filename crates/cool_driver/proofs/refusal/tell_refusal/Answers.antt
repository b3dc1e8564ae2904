use Rattle.std.proofs.Common.{refl, ap, arith}
use Rattle.cool_driver.specs.{Calls.{sink_use}, Statuses.{code_of}}
use Rattle.cool_driver.proofs.{DevicesOfCalls.{got_nothing}, LinesOfNotes.{no_lines}, RefusalsTold.{faults_put, status_told}}
use Rattle.cool_driver.proofs.refusal.tell_refusal.Goals as goal

-- lines of faults were put
pub returns-in-Told-clause-put : goal.returns-in-Told-clause-put
returns-in-Told-clause-put g c names shelf lined is =
    let lined = rw c.in-Told.is at lined in
    faults_put names shelf _ _ _ (lined (status_told (sink_use g.E.Sink c.args.notes.now c.tell_lines.new.notes) _ _ _ is c.tell_lines.ensures.noted))
    (rw c.deref.ensures.value at (c.tell_lines.ensures.put (λ e. omega (arith, is, ap code_of e))))

-- nothing is written
pub returns-in-Memory : goal.returns-in-Memory
returns-in-Memory g c = record {
  noted = rw c.in-Memory.is (refl, got_nothing _ _);
  lines = no_lines _;
  put = λ names shelf lined is. absurd (omega (arith, is));
}
