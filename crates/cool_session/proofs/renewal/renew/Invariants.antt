-- In the loop of `renew`, `faults` has the results of the features so far, and `asked` is the number of them without a stored result.
use Rattle.std.proofs.Common.{◌≡◌, ◌≤◌, take}
use Rattle.cool_session.specs.KeptFaults.{results, AreKeptOf}
use Rattle.cool_session.specs.NewFeatures.{AreNew, calls_after, kinds_seen, runs_seen}
use Rattle.cool_session.proofs.renewal.renew.Given as goal

abbrev pub invariant-loop-i : goal.invariant-loop-i
invariant-loop-i g l = record {
  kept : AreKeptOf (take l.i (runs_seen l.now)) (take l.i (results l.now.classes)) l.faults.items;
  new : AreNew l.base (kinds_seen l.now) l.i l.asked;
  calls : g.K.Typer.calls l.typer ≡ calls_after l.asked (g.K.Typer.calls l.fn.typer);
  few : l.asked ≤ l.i;
}
