use Rattle.std.proofs.Common.{◌≡◌, false, List, ℕ, drop}
use Rattle.std.specs.Prelude.{Some}
use Rattle.cool_ports.specs.Answers.{Leaves}
use Rattle.cool_ports.specs.Taking.{Took}
use Rattle.cool_ports.specs.SinkPuts.{seen}
use Rattle.spim_debug.specs.Debugging.{debuggee}
use Rattle.spim_debug.specs.Obeying.{IsDebuggerOf}
use Rattle.spim_debug.proofs.DoneScripts.{SoFar}
use Rattle.spim_debug.proofs.debugger.debug.Given as goal

-- the commands so far are done, for any input that the source may have had, and no call failed
abbrev pub invariant-loop-command : goal.invariant-loop-command
invariant-loop-command g l =
    let s = g.S.Source in
    record {
      debugger : IsDebuggerOf l.fn.image.text l.debugger;
      took : Took false l.debugger.machine.ended (s.past l.fn.source) (s.past l.source) (s.left l.fn.source) (s.left l.source);
      so_far : (input rest : List ℕ) → Leaves (s.past l.fn.source) (s.past l.source) input rest
          → SoFar (debuggee l.fn.image l.fn.limits.heap l.fn.limits.stack l.fn.budget input) l.script (drop l.command-index l.script) (g.K.Sink.held l.fn.sink) l.debugger (Some rest) (g.K.Sink.held l.sink)
          (seen (g.E.Sink.held l.fn.notes) (g.E.Sink.puts l.fn.notes)) (seen (g.E.Sink.held l.notes) (g.E.Sink.puts l.notes));
      source : s.faults l.source ≡ s.faults l.fn.source;
      sink : g.K.Sink.faults l.sink ≡ g.K.Sink.faults l.fn.sink;
      notes : g.E.Sink.faults l.notes ≡ g.E.Sink.faults l.fn.notes;
    }
