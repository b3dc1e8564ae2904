-- The system call `sbrk` moves the end of the heap by `$a0` and returns the old end, or returns -1 if the heap would be too large.
use Rattle.std.proofs.Common.{◌≡◌, ◌∙◌, refl, ap, ℕ, ◌+◌, ◌<◌, ◌≤◌, true, false, List, arith}
use Rattle.std.specs.Prelude.{nat_le, Option, Ok}
use Rattle.mips_isa.specs.Machine.{set_register}
use Rattle.mips_isa.specs.Calls.{sbrk, with_v0}
use Rattle.spim_memory.specs.Memory.{MemoryParts, segments}
use Rattle.spim_cpu.specs.Cpu.{CpuParts, core_of}
use Rattle.spim_machine.specs.MachineStates.{MachineParts, state_of}
use Rattle.spim_machine.specs.Ends.{stores_none, IsResultOf}
use Rattle.spim_machine.proofs.PartsOfMachines.{a0_of, memory_of}

-- the end of a machine's heap, which the code read from its memory
abbrev heap_end_of : MemoryParts → ℕ
heap_end_of memory = (segments memory).heap_end

-- $v0 was set
abbrev HasSet : ℕ → CpuParts → CpuParts → Type 0
HasSet v old new = core_of new ≡ record (core_of old) { registers = set_register (core_of old).registers 2 v }

-- the effect of sbrk in any state that the machine may be in
abbrev pub Moves : MachineParts → MachineParts → Type 0
Moves m new = (left held : Option (List ℕ)) → IsResultOf (sbrk (segments (memory_of m))) stores_none m left held (Ok tt) new left held

-- the break moves, and the old one is answered
pub break_moved : (m new : MachineParts) (memory : MemoryParts) (a0 end sum : ℕ)
    → a0 ≡ a0_of m → memory ≡ memory_of m → end ≡ heap_end_of memory → sum ≡ m.heap_break + a0 → sum ≤ end
    → HasSet m.heap_break m.cpu new.cpu → new.heap_break ≡ sum → new.ended ≡ m.ended → Moves m new
break_moved m new memory a0 end sum a0_is memory_is end_is sum_is within core_is break_is ended_is left held input output first left_is held_is =
    let last : end ≡ heap_end_of (memory_of m) = end_is ∙ ap heap_end_of memory_is in
    let fits : nat_le (m.heap_break + a0_of m) (heap_end_of (memory_of m)) ≡ true = grind arith in
    let moved : sum ≡ m.heap_break + a0_of m = sum_is ∙ ap (λ a. m.heap_break + a) a0_is in (
      record (with_v0 (state_of m input output) m.heap_break) { heap_break = m.heap_break + a0_of m },
      rw fits refl,
      record { core = core_is; heap_break = break_is ∙ moved; ended = ended_is; input = left_is; output = held_is },
    )

-- the break would pass the heap's end: it stays, and -1 is answered
pub break_stayed : (m new : MachineParts) (memory : MemoryParts) (a0 end : ℕ)
    → a0 ≡ a0_of m → memory ≡ memory_of m → end ≡ heap_end_of memory → end < m.heap_break + a0
    → HasSet 4294967295 m.cpu new.cpu → new.heap_break ≡ m.heap_break → new.ended ≡ m.ended → Moves m new
break_stayed m new memory a0 end a0_is memory_is end_is past core_is break_is ended_is left held input output first left_is held_is =
    let last : end ≡ heap_end_of (memory_of m) = end_is ∙ ap heap_end_of memory_is in
    let over : nat_le (m.heap_break + a0_of m) (heap_end_of (memory_of m)) ≡ false = grind arith in (
      with_v0 (state_of m input output) 4294967295,
      rw over refl,
      record { core = core_is; heap_break = break_is; ended = ended_is; input = left_is; output = held_is },
    )
