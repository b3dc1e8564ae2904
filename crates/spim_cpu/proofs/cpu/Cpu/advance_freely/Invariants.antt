use Rattle.std.proofs.Common.{◌-◌, ◌≤◌}
use Rattle.spim_memory.specs.Memory.{segments}
use Rattle.spim_cpu.specs.Cpu.{core_of, KeepsSegments}
use Rattle.spim_cpu.specs.Advancing.{Goes, at, is_past}
use Rattle.spim_cpu.proofs.cpu.Cpu.advance_freely.Given as goal

-- so many instructions lead to the state with this pc
abbrev pub invariant-loop-left : goal.invariant-loop-left
invariant-loop-left l = record {
  goes : Goes is_past l.fn.self.memory.text (segments l.fn.self.memory) (l.most - l.left) (core_of l.fn.self) (at l.pc (core_of l.self));
  keeps : KeepsSegments l.fn.self.memory l.self.memory;
  within : l.left ≤ l.most;
}

abbrev pub decreases-loop-left : goal.decreases-loop-left
decreases-loop-left l = l.left
