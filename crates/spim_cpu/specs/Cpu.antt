-- `CpuParts` is the simulator's processor as contracts see it, and `core_of` converts it to the state of the machine's definition.
use Rattle.std.specs.Prelude.{◌≡◌, ℕ, ◌+◌, List, length, get_or, Result, Ok, Err}
use Rattle.mips_isa.specs.declared.register.TheConstants.{ZERO}
use Rattle.mips_isa.specs.declared.trap.Trap.{Trap}
use Rattle.mips_isa.specs.declared.trap.TrapKind.TheVariants as kind
use Rattle.mips_isa.specs.declared.instr.ToOp.{ToOp}
use Rattle.mips_isa.specs.declared.instr.ToOp.TheVariants.{Mthi, Mtlo}
use Rattle.mips_isa.specs.Machine.{Core, Next, On, Call, Stop, put, put_hi_lo}
use Rattle.spim_memory.specs.Memory.{MemoryParts, segments, bytes_of}
use Rattle.spim_memory.specs.declared.fault.MemFault.{MemFault}
use Rattle.spim_memory.specs.declared.fault.MemFault.TheVariants.{Unaligned, BadAddress}
use Rattle.spim_cpu.specs.declared.step.Step.{Step}
use Rattle.spim_cpu.specs.declared.step.Step.TheVariants as answer

pub record CpuParts : Type 0 where
  pub registers : List ℕ
  pub hi : ℕ
  pub lo : ℕ
  pub pc : ℕ
  pub memory : MemoryParts

-- there are 32 registers, and $zero holds 0
pub record IsCpu (registers : List ℕ) : Type 0 where
  pub count : length registers ≡ 32
  pub zero_is : get_or registers ZERO 0 ≡ 0

-- the state of the machine
abbrev pub core_of : CpuParts → Core
core_of c = record { registers = λ k. get_or c.registers k 0; hi = c.hi; lo = c.lo; pc = c.pc; memory = bytes_of c.memory }

-- a refused access, as a trap of the instruction at pc
abbrev pub trap_of : MemFault → ℕ → Trap
trap_of (Unaligned a) pc = record { kind = kind.Unaligned; address = a; pc = pc }
trap_of (BadAddress a) pc = record { kind = kind.BadAddress; address = a; pc = pc }

-- No instruction changes the text, or where the segments are.
pub record KeepsSegments (old new : MemoryParts) : Type 0 where
  pub text : new.text ≡ old.text
  pub segments : segments new ≡ segments old

-- The processor did what the definition does next, and answered so; a trap changes nothing.
abbrev pub Stepped : Next → Step → CpuParts → CpuParts → Type 0
Stepped (On core) answer.Next old new = core_of new ≡ core
Stepped (On core) answer.Call old new = ⊥
Stepped (On core) (answer.Trap t) old new = ⊥
Stepped (Call core) answer.Next old new = ⊥
Stepped (Call core) answer.Call old new = core_of new ≡ core
Stepped (Call core) (answer.Trap t) old new = ⊥
Stepped (Stop trap) answer.Next old new = ⊥
Stepped (Stop trap) answer.Call old new = ⊥
Stepped (Stop trap) (answer.Trap t) old new = (t ≡ trap) × (new ≡ old)

-- a number, moved to HI or to LO
abbrev pub moved_to : ToOp → Core → ℕ → Next
moved_to Mthi s v = put_hi_lo s v s.lo
moved_to Mtlo s v = put_hi_lo s s.hi v

-- the step after a load: its number goes into a register, or it traps
abbrev pub put_loaded : Core → ℕ → Result ℕ MemFault → Next
put_loaded s k (Ok v) = put s k v
put_loaded s k (Err fault) = Stop (trap_of fault s.pc)

-- the step after a store
abbrev pub after_store : Core → Result (Unit {0}) MemFault → Next
after_store s (Ok done) = On (record s { pc = s.pc + 4 })
after_store s (Err fault) = Stop (trap_of fault s.pc)
