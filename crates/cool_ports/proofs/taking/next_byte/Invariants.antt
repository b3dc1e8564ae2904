use Rattle.std.proofs.Common.{◌≡◌, ◌≤◌, false}
use Rattle.cool_ports.specs.Taking.{Took, OfAnyInput}
use Rattle.cool_ports.proofs.GivingBytes.{GaveZeros}
use Rattle.cool_ports.proofs.taking.next_byte.Given as goal

-- it gave zeros so far, the end was not answered, and no take failed
abbrev pub invariant-loop-byte : goal.invariant-loop-byte
invariant-loop-byte g l =
    let s = g.S.Source in
    record {
      ended : l.ended ≡ false;
      took : Took false false (s.past l.fn.source) (s.past l.source) (s.left l.fn.source) (s.left l.source);
      gave : OfAnyInput (s.past l.fn.source) (s.past l.source) GaveZeros;
      room : s.room l.source ≤ s.room l.fn.source;
      no_fault : s.faults l.source ≡ s.faults l.fn.source;
    }

abbrev pub decreases-loop-byte : goal.decreases-loop-byte
decreases-loop-byte g l = g.S.Source.room l.source
