use Rattle.std.proofs.Common.{◌≡◌}
use Rattle.cool_ports.specs.Taking.{Took, OfAnyInput}
use Rattle.spim_machine.proofs.ReadingNumbers.{ReadUpTo}
use Rattle.spim_machine.proofs.number.read_number.Given as goal

-- a number was read as far as the line came, and no take failed
abbrev pub invariant-loop-byte : goal.invariant-loop-byte
invariant-loop-byte g l =
    let s = g.S.Source in
    record {
      ended : l.ended ≡ l.fn.ended;
      took : Took l.fn.ended l.ended (s.past l.fn.source) (s.past l.source) (s.left l.fn.source) (s.left l.source);
      reads : OfAnyInput (s.past l.fn.source) (s.past l.source) (λ before after. ReadUpTo l.fn.ended before after l.number);
      no_fault : s.faults l.source ≡ s.faults l.fn.source;
    }

abbrev pub decreases-loop-byte : goal.decreases-loop-byte
decreases-loop-byte g l = g.S.Source.room l.source
