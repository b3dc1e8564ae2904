use Rattle.std.proofs.Common.{◌≡◌, ℕ, List, false}
use Rattle.cool_ports.specs.Answers.{Leaves}
use Rattle.cool_ports.specs.SinkPuts.{seen}
use Rattle.cool_ports.specs.Taking.{Took}
use Rattle.cool_eval.proofs.RunSoFar.{SoFar}
use Rattle.cool_eval.proofs.evaluation.run.Given as goal

-- the configuration means what the program comes to, and no take and no put failed
abbrev pub invariant-loop : goal.invariant-loop
invariant-loop g l =
    let s = g.S.Source in
    let k = g.K.Sink in
    record {
      took : Took false l.machine.ended (s.past l.fn.source) (s.past l.source) (s.left l.fn.source) (s.left l.source);
      so_far : (input middle : List ℕ) → Leaves (s.past l.fn.source) (s.past l.source) input middle → SoFar l.fn.setting.table.now l.fn.steps (seen (k.held l.fn.sink) (k.puts l.fn.sink)) input l.focus l.machine middle (seen (k.held l.sink) (k.puts l.sink));
      source : s.faults l.source ≡ s.faults l.fn.source;
      sink : k.faults l.sink ≡ k.faults l.fn.sink;
    }
