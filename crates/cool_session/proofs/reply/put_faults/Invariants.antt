use Rattle.std.proofs.Common.{◌≡◌, map, drop}
use Rattle.cool_faults.specs.Texts.{fault_line}
use Rattle.cool_ports.specs.SinkPuts.{seen}
use Rattle.cool_ports.proofs.SeenSinks.{SeenUpTo}
use Rattle.cool_session.specs.Files.{names_of}
use Rattle.cool_session.proofs.reply.put_faults.Given as goal

-- the lines of the faults so far were put
abbrev pub invariant-loop-fault : goal.invariant-loop-fault
invariant-loop-fault g l =
    let k = g.K.Sink in
    let line = fault_line (names_of l.names) in
    record {
      got : SeenUpTo (seen (k.held l.fn.sink) (k.puts l.fn.sink)) (map line l.faults) (map line (drop l.fault-index l.faults)) (seen (k.held l.sink) (k.puts l.sink));
      no_fault : k.faults l.sink ≡ k.faults l.fn.sink;
    }
