use Rattle.std.proofs.Common.{◌≡◌, ◌≤◌, ◌++◌, ℕ, List, length, false}
use Rattle.cool_ports.specs.Answers.{Leaves}
use Rattle.cool_ports.specs.Taking.{Took}
use Rattle.cool_session.proofs.input.take_file.Given as goal

-- the front of a file was taken, and no take failed
abbrev pub invariant-loop-source : goal.invariant-loop-source
invariant-loop-source g l =
    let s = g.S.Source in
    record {
      took : Took false false (s.past l.fn.source) (s.past l.source) (s.left l.fn.source) (s.left l.source);
      file : (input left : List ℕ) → Leaves (s.past l.fn.source) (s.past l.source) input left → input ≡ l.bytes.items ++ left;
      short : length l.bytes.items ≤ l.size;
      room : s.room l.source ≤ s.room l.fn.source;
      no_fault : s.faults l.source ≡ s.faults l.fn.source;
    }

abbrev pub decreases-loop-source : goal.decreases-loop-source
decreases-loop-source g l = g.S.Source.room l.source
