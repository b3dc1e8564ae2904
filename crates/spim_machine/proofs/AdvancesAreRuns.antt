-- If the processor executes several instructions in one call, the machine's run of as many instructions leads to the same state.
use Rattle.std.proofs.Common.{◌≡◌, ◌∙◌, sym, ap, subst, ℕ, zero, suc, ◌+◌, ◌-◌, Bool, List, arith}
use Rattle.mips_isa.specs.Bytes.{Segments}
use Rattle.mips_isa.specs.Machine.{Core}
use Rattle.mips_isa.specs.Calls.{State, Running}
use Rattle.mips_isa.specs.Run.{after, run}
use Rattle.spim_memory.specs.Memory.{MemoryParts, segments}
use Rattle.spim_cpu.specs.Cpu.{CpuParts, KeepsSegments}
use Rattle.spim_cpu.specs.Advancing.{Goes}
use Rattle.spim_machine.specs.MachineStates.{MachineParts, Keeps}
use Rattle.spim_machine.proofs.RunsGoOn.{run_next}

-- no instruction yet
pub none_ran : (text : List ℕ) (b : Segments) (n : ℕ) (s : State) → run text b (n - n) s ≡ Running s
none_ran text b n s =
    let none : n - n ≡ 0 = omega arith in
    ap (λ k. run text b k s) none

-- so many instructions, none of which is a system call
pub goes_runs : (breaks : ℕ → Bool) (text : List ℕ) (b : Segments) (n : ℕ) (t : State) (core : Core)
    → Goes breaks text b n t.core core → run text b n t ≡ Running (record t { core = core })
goes_runs breaks text b zero t core same = ap (λ (c : Core). Running (record t { core = c })) (sym same)
goes_runs breaks text b (suc n) t core (before, goes, free, steps) =
    let one : suc n ≡ n + 1 = omega arith in
    ap (λ k. run text b k t) one
    ∙ run_next text b n t (record t { core = before }) (record t { core = core }) (goes_runs breaks text b n t before goes) (ap (after b (record t { core = before })) steps)

-- the same by the text and the segments at the run's start
pub goes_as : (breaks : ℕ → Bool) (old now : MemoryParts) (n : ℕ) (s t : Core) → KeepsSegments old now
    → Goes breaks now.text (segments now) n s t → Goes breaks old.text (segments old) n s t
goes_as breaks old now n s t kept goes =
    subst (λ (b : Segments). Goes breaks old.text b n s t) kept.segments (subst (λ (text : List ℕ). Goes breaks text (segments now) n s t) kept.text goes)

-- such instructions keep what no call changes
pub advanced_keeps : (old mid : MachineParts) (cpu : CpuParts) → Keeps old mid → KeepsSegments mid.cpu.memory cpu.memory
    → Keeps old (record mid { cpu = cpu })
advanced_keeps old mid cpu keeps advanced = record {
  memory = record { text = advanced.text ∙ keeps.memory.text; segments = advanced.segments ∙ keeps.memory.segments };
  halted = keeps.halted;
}
