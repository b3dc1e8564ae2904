use Rattle.std.proofs.Common.{◌≡◌, ◌⊎◌, ◌+◌, ◌<◌, ◌≤◌, ◌^◌, ◌++◌, ℕ, List, length, false, true, not}
use Rattle.std.specs.Prelude.{◌==◌}
use Rattle.std.specs.List.{list_all}
use Rattle.cool_ports.specs.Answers.{Leaves}
use Rattle.cool_ports.specs.Taking.{Took}
use Rattle.cool_session.proofs.input.take_line.Given as goal

-- the front of a line was taken, and no take failed
abbrev pub invariant-loop-line : goal.invariant-loop-line
invariant-loop-line g l =
    let s = g.S.Source in
    record {
      took : Took false false (s.past l.fn.source) (s.past l.source) (s.left l.fn.source) (s.left l.source);
      line : (input left : List ℕ) → Leaves (s.past l.fn.source) (s.past l.source) input left → input ≡ l.line.items ++ left;
      short : length l.line.items ≤ 300;
      no_newline : list_all (λ b. not (b == 10)) l.line.items ≡ true;
      spent : s.room l.source + length l.line.items ≤ s.room l.fn.source;
      bounded : (s.room l.source ≡ s.room l.fn.source) ⊎ (s.room l.fn.source < 2 ^ 64);
      no_fault : s.faults l.source ≡ s.faults l.fn.source;
    }

abbrev pub decreases-loop-line : goal.decreases-loop-line
decreases-loop-line g l = g.S.Source.room l.source
