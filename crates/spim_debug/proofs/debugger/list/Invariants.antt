use Rattle.std.proofs.Common.{◌≡◌, ◌+◌, ◌*◌, drop}
use Rattle.cool_ports.proofs.SeenSinks.{SeenUpTo}
use Rattle.cool_ports.specs.SinkPuts.{seen}
use Rattle.spim_debug.specs.Notes.{listed_from}
use Rattle.spim_debug.proofs.debugger.list.Given as goal

-- the notes so far were put
abbrev pub invariant-loop-word : goal.invariant-loop-word
invariant-loop-word g l = record {
  at : l.at ≡ l.fn.address + 4 * l.word-index;
  got : SeenUpTo (seen (g.E.Sink.held l.fn.notes) (g.E.Sink.puts l.fn.notes)) (listed_from l.fn.address l.words) (listed_from l.at (drop l.word-index l.words)) (seen (g.E.Sink.held l.notes) (g.E.Sink.puts l.notes));
  calm : g.E.Sink.faults l.notes ≡ g.E.Sink.faults l.fn.notes;
}
