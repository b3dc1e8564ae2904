use Rattle.spim_memory.specs.Memory.{bytes_of}
use Rattle.spim_memory.proofs.StringsOfBytes.{HasNoZero}
use Rattle.spim_memory.proofs.memory.Memory.string_length.Given as goal

-- no 0 so far
abbrev pub invariant-loop-k : goal.invariant-loop-k
invariant-loop-k l = HasNoZero (bytes_of l.self) l.a l.k
