use Rattle.std.proofs.Common.{◌≡◌, drop}
use Rattle.cool_ports.specs.SinkPuts.{seen}
use Rattle.cool_ports.proofs.SeenSinks.{SeenUpTo}
use Rattle.cool_driver.specs.Contents.{texts}
use Rattle.cool_driver.proofs.notes.tell_lines.Given as goal

-- the lines so far came, a put for each, and no fault
abbrev pub invariant-loop-line : goal.invariant-loop-line
invariant-loop-line g l = record {
  got : SeenUpTo (seen (g.E.Sink.held l.fn.notes) (g.E.Sink.puts l.fn.notes)) (texts l.lines) (texts (drop l.line-index l.lines)) (seen (g.E.Sink.held l.notes) (g.E.Sink.puts l.notes));
  calm : g.E.Sink.faults l.notes ≡ g.E.Sink.faults l.fn.notes;
}
