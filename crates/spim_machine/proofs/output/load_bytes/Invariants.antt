use Rattle.std.specs.Prelude.{◌≡◌, ℕ, ◌+◌, ◌<◌, get_or}
use Rattle.spim_memory.specs.Memory.{bytes_of}
use Rattle.spim_machine.proofs.output.load_bytes.Given as goal

-- the bytes so far are loaded
abbrev pub invariant-loop-k : goal.invariant-loop-k
invariant-loop-k l = (i : ℕ) → i < l.k → get_or l.bytes i 0 ≡ bytes_of l.memory (l.address + i)
