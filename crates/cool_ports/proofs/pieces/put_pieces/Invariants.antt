use Rattle.std.proofs.Common.{◌≡◌, length}
use Rattle.cool_ports.specs.SinkBytes.{GotUpTo}
use Rattle.cool_ports.specs.SinkPuts.{pieces_of, PutUpTo}
use Rattle.cool_ports.proofs.pieces.put_pieces.Given as goal

-- the sink got all but the rest, a put for each piece, and no put failed
abbrev pub invariant-loop-rest : goal.invariant-loop-rest
invariant-loop-rest g l =
    let held = g.K.Sink.held in
    let puts = g.K.Sink.puts in
    let faults = g.K.Sink.faults in
    record {
      got : GotUpTo (held l.fn.sink) l.fn.bytes l.rest (held l.sink);
      pieces : PutUpTo (puts l.fn.sink) (pieces_of l.fn.most l.fn.bytes) (pieces_of l.fn.most l.rest) (puts l.sink);
      no_fault : faults l.sink ≡ faults l.fn.sink;
    }

abbrev pub decreases-loop-rest : goal.decreases-loop-rest
decreases-loop-rest g l = length l.rest
