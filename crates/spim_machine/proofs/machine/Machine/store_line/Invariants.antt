use Rattle.std.proofs.Common.{◌≡◌}
use Rattle.spim_cpu.specs.Cpu.{core_of}
use Rattle.cool_ports.specs.Taking.{Took, OfAnyInput}
use Rattle.spim_machine.specs.MachineStates.{Keeps}
use Rattle.spim_machine.proofs.FillingBuffers.{StoredUpTo}
use Rattle.spim_machine.proofs.machine.Machine.store_line.Given as goal

-- the bytes so far were stored, and no take failed
abbrev pub invariant-loop-end : goal.invariant-loop-end
invariant-loop-end g l =
    let s = g.S.Source in
    record {
      ended : l.self.ended ≡ l.fn.self.ended;
      took : Took l.fn.self.ended l.self.ended (s.past l.fn.source) (s.past l.source) (s.left l.fn.source) (s.left l.source);
      stored : OfAnyInput (s.past l.fn.source) (s.past l.source)
          (λ before after. StoredUpTo l.fn.self.ended l.fn.most before after (core_of l.fn.self.cpu) (core_of l.self.cpu) l.fn.address l.end);
      heap_break : l.self.heap_break ≡ l.fn.self.heap_break;
      keeps : Keeps l.fn.self l.self;
      no_fault : s.faults l.source ≡ s.faults l.fn.source;
    }
