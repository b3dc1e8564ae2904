use Rattle.std.specs.Prelude.{◌≡◌, ◌+◌, ◌<◌}
use Rattle.mips_isa.specs.Calls.{all_writable}
use Rattle.spim_memory.specs.Memory.{segments}
use Rattle.spim_memory.proofs.memory.Memory.may_store.Given as goal

-- the bytes that are left decide
abbrev pub invariant-loop-left : goal.invariant-loop-left
invariant-loop-left l = record {
  rest : l.start + l.left ≡ l.a + l.count;
  some : 0 < l.count → 0 < l.left;
  decide : all_writable (segments l.self) l.a l.count ≡ all_writable (segments l.self) l.start l.left;
}

abbrev pub decreases-loop-left : goal.decreases-loop-left
decreases-loop-left l = l.left
