use Rattle.std.proofs.Common.{◌≡◌, ℕ, List, [], true}
use Rattle.cool_ports.specs.Answers.{Leaves}
use Rattle.cool_ports.specs.Taking.{Took}
use Rattle.cool_eval.proofs.TakingLines.{LineUpTo}
use Rattle.cool_eval.proofs.console.take_line.Given as goal

-- the front of a line was taken, and no take failed
abbrev pub invariant-loop-line : goal.invariant-loop-line
invariant-loop-line g l =
    let s = g.S.Source in
    record {
      ended : l.ended ≡ l.fn.ended;
      took : Took l.fn.ended l.ended (s.past l.fn.source) (s.past l.source) (s.left l.fn.source) (s.left l.source);
      line : (input rest : List ℕ) → Leaves (s.past l.fn.source) (s.past l.source) input rest → (l.fn.ended ≡ true → input ≡ []) → LineUpTo l.fn.ended l.line.items input rest;
      no_fault : s.faults l.source ≡ s.faults l.fn.source;
    }

abbrev pub decreases-loop-line : goal.decreases-loop-line
decreases-loop-line g l = g.S.Source.room l.source
