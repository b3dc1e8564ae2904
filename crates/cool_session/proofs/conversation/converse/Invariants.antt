use Rattle.std.proofs.Common.{◌≡◌, ◌+◌, ◌<◌, ◌^◌, ℕ, List, false}
use Rattle.cool_ports.specs.Answers.{Leaves}
use Rattle.cool_ports.specs.SinkPuts.{seen}
use Rattle.cool_ports.specs.Taking.{Took}
use Rattle.cool_session.specs.Held.{held_by}
use Rattle.cool_session.proofs.SessionsSoFar.{SoFar}
use Rattle.cool_session.proofs.conversation.converse.Given as goal

-- so many commands were done, and no device failed
abbrev pub invariant-loop-session : goal.invariant-loop-session
invariant-loop-session g l =
    let s = g.S.Source in
    let k = g.K.Sink in
    record {
      took : Took false false (s.past l.fn.source) (s.past l.source) (s.left l.fn.source) (s.left l.source);
      so_far : (input left : List ℕ) → Leaves (s.past l.fn.source) (s.past l.source) input left
          → SoFar input l.number (held_by l.session) left (seen (k.held l.fn.sink) (k.puts l.fn.sink)) (seen (k.held l.sink) (k.puts l.sink));
      few : 0 < l.number → l.number + s.room l.source < 2 ^ 64;
      no_read_fault : s.faults l.source ≡ s.faults l.fn.source;
      no_write_fault : k.faults l.sink ≡ k.faults l.fn.sink;
    }

abbrev pub decreases-loop-session : goal.decreases-loop-session
decreases-loop-session g l = g.S.Source.room l.source
