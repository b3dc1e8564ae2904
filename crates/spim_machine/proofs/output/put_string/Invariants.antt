use Rattle.std.specs.Prelude.{◌≡◌, ◌+◌, ◌-◌, ◌≤◌}
use Rattle.cool_ports.specs.SinkBytes.{GotUpTo}
use Rattle.cool_ports.specs.SinkPuts.{pieces_of, PutUpTo}
use Rattle.spim_memory.specs.Memory.{bytes_of}
use Rattle.spim_memory.specs.Strings.{bytes_from}
use Rattle.spim_machine.proofs.output.put_string.Given as goal

-- the sink got all but the bytes that are left, and no put failed
abbrev pub invariant-loop-done : goal.invariant-loop-done
invariant-loop-done g l =
    let held = g.K.Sink.held in
    let puts = g.K.Sink.puts in
    let faults = g.K.Sink.faults in
    let bytes = bytes_of l.memory in
    record {
      within : l.done ≤ l.count;
      got : GotUpTo (held l.fn.sink) (bytes_from bytes l.address l.count) (bytes_from bytes (l.address + l.done) (l.count - l.done))
          (held l.sink);
      pieces : PutUpTo (puts l.fn.sink) (pieces_of 64 (bytes_from bytes l.address l.count)) (pieces_of 64 (bytes_from bytes (l.address + l.done) (l.count - l.done))) (puts l.sink);
      no_fault : faults l.sink ≡ faults l.fn.sink;
    }

abbrev pub decreases-loop-done : goal.decreases-loop-done
decreases-loop-done g l = l.count - l.done
