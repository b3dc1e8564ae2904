-- `a0_of` and `memory_of` give the parts of a machine that a system call reads: the value of `$a0`, and the memory.
use Rattle.std.proofs.Common.{ℕ}
use Rattle.spim_memory.specs.Memory.{MemoryParts}
use Rattle.spim_cpu.specs.Cpu.{core_of}
use Rattle.spim_machine.specs.MachineStates.{MachineParts}

-- the value of $a0
abbrev pub a0_of : MachineParts → ℕ
a0_of m = (core_of m.cpu).registers 4

abbrev pub memory_of : MachineParts → MemoryParts
memory_of m = m.cpu.memory
