-- `Stands` is the invariant of the loop that runs a machine up to a breakpoint: it holds at the start, and each iteration of the loop keeps it or ends the run.
use Rattle.std.proofs.Common.{◌≡◌, ◌∙◌, refl, sym, ap, subst, ℕ, suc, ◌+◌, ◌-◌, ◌<◌, ◌≤◌, Bool, List, Option, arith}
use Rattle.std.specs.Prelude.{Ok, Err}
use Rattle.mips_isa.specs.Bytes.{Segments}
use Rattle.mips_isa.specs.Machine.{Core}
use Rattle.mips_isa.specs.Calls.{State, Outcome, Running}
use Rattle.mips_isa.specs.Run.{cycle, run}
use Rattle.spim_memory.specs.Memory.{MemoryParts, segments}
use Rattle.spim_cpu.specs.Cpu.{CpuParts, core_of, KeepsSegments}
use Rattle.spim_cpu.specs.Advancing.{Goes}
use Rattle.spim_machine.specs.declared.halt.Halt.{Halt}
use Rattle.spim_machine.specs.declared.halt.Halt.TheVariants as halts
use Rattle.spim_machine.specs.MachineStates.{MachineParts, IsIn}
use Rattle.spim_machine.specs.Ends.{Cycled}
use Rattle.spim_machine.specs.Counting.{counted, before_break, moved, executed_in, RanTo}
use Rattle.spim_machine.proofs.RunsGoOn.{run_next, run_both, ran_ends}
use Rattle.spim_machine.proofs.RunsByCycles.{cycled_as, ran_noted, noted_counts}
use Rattle.spim_machine.proofs.AdvancesAreRuns.{none_ran, goes_runs, goes_as}
use Rattle.spim_machine.proofs.CountsOfRuns.{counted_some, moved_next, before_advanced}

-- A run of at most n instructions stands in the state in which the machine is, and has `left` of them left: it executes as many more as
-- `further` says of their number and of that state.
pub record Stands (further : ℕ → State → ℕ) (breaks : ℕ → Bool) (text : List ℕ) (b : Segments) (n left : ℕ) (s : State) (first : Option (List ℕ)) (m : MachineParts) (input held : Option (List ℕ)) : Type 0 where
  pub state : State
  pub runs : run text b (n - left) s ≡ Running state
  pub count : moved breaks text b n s ≡ n - left + further left state
  pub is : IsIn first state m input held

-- before the first instruction
pub stands_first : (breaks : ℕ → Bool) (text : List ℕ) (b : Segments) (n : ℕ) (s : State) (first : Option (List ℕ))
    (m : MachineParts) (input held : Option (List ℕ)) → IsIn first s m input held
    → Stands (moved breaks text b) breaks text b n n s first m input held
stands_first breaks text b n s first m input held is = record { state = s; runs = none_ran text b n s; count = omega arith; is = is }

-- after an instruction that goes on
pub stands_cycled : (breaks : ℕ → Bool) (old now : MemoryParts) (n left : ℕ) (s : State) (first : Option (List ℕ))
    (mid m : MachineParts) (input held input' held' : Option (List ℕ)) → KeepsSegments old now → 0 < left → left ≤ n
    → Stands (moved breaks old.text (segments old)) breaks old.text (segments old) n left s first mid input held
    → ((t : State) → IsIn first t mid input held → Cycled now.text (segments now) t first (Ok tt) m input' held')
    → Stands (before_break breaks old.text (segments old)) breaks old.text (segments old) n (left - 1) s first m input' held'
stands_cycled breaks old now n left s first mid m input held input' held' kept some within h cycled =
    let turn = cycled_as old now h.state first (Ok tt) m input' held' kept (cycled h.state h.is) in
    let one : n - (left - 1) ≡ n - left + 1 = omega (arith, some, within) in
    let all : left ≡ suc (left - 1) = omega (arith, some) in
    let more : moved breaks old.text (segments old) left h.state ≡ suc (before_break breaks old.text (segments old) (left - 1) turn.0) =
    ap (λ i. moved breaks old.text (segments old) i h.state) all ∙ moved_next breaks old.text (segments old) (left - 1) h.state turn.0 turn.1 in
    let before : moved breaks old.text (segments old) n s ≡ n - left + moved breaks old.text (segments old) left h.state = h.count in
    record {
      state = turn.0;
      runs = ap (λ i. run old.text (segments old) i s) one ∙ run_next old.text (segments old) (n - left) s h.state turn.0 h.runs turn.1;
      count = omega (arith, before, more, one);
      is = turn.2;
    }

-- after so many instructions, none of which is a system call or stands at a break address
pub stands_advanced : (breaks : ℕ → Bool) (old : MemoryParts) (k n left : ℕ) (s : State) (first : Option (List ℕ))
    (mid : MachineParts) (cpu : CpuParts) (input held : Option (List ℕ)) → KeepsSegments old mid.cpu.memory → k ≤ left → left ≤ n
    → Stands (before_break breaks old.text (segments old)) breaks old.text (segments old) n left s first mid input held
    → Goes breaks mid.cpu.memory.text (segments mid.cpu.memory) k (core_of mid.cpu) (core_of cpu)
    → Stands (before_break breaks old.text (segments old)) breaks old.text (segments old) n (left - k) s first (record mid { cpu = cpu }) input held
stands_advanced breaks old k n left s first mid cpu input held kept most within h goes =
    let here = goes_as breaks old mid.cpu.memory k (core_of mid.cpu) (core_of cpu) kept goes in
    let from = subst (λ (c : Core). Goes breaks old.text (segments old) k c (core_of cpu)) h.is.core here in
    let on : State = record h.state { core = core_of cpu } in
    let parts : n - (left - k) ≡ n - left + k = omega (arith, most, within) in
    let more : before_break breaks old.text (segments old) left h.state ≡ k + before_break breaks old.text (segments old) (left - k) on =
    before_advanced breaks old.text (segments old) k left h.state (core_of cpu) most from in
    let before : moved breaks old.text (segments old) n s ≡ n - left + before_break breaks old.text (segments old) left h.state = h.count in
    record {
      state = on;
      runs = ap (λ i. run old.text (segments old) i s) parts ∙ run_both old.text (segments old) (n - left) k s h.state h.runs ∙ goes_runs breaks old.text (segments old) k h.state (core_of cpu) from;
      count = omega (arith, before, more, parts);
      is = record { core = refl; heap_break = h.is.heap_break; ended = h.is.ended; input = h.is.input; output = h.is.output };
    }

-- after both
pub stands_turned : (breaks : ℕ → Bool) (old now : MemoryParts) (k n left : ℕ) (s : State) (first : Option (List ℕ))
    (from to mid : MachineParts) (cpu : CpuParts) (input held input' held' : Option (List ℕ))
    → KeepsSegments old now → KeepsSegments old mid.cpu.memory → 0 < left → left ≤ n → k ≤ left - 1 → to ≡ mid
    → Stands (moved breaks old.text (segments old)) breaks old.text (segments old) n left s first from input held
    → ((t : State) → IsIn first t from input held → Cycled now.text (segments now) t first (Ok tt) to input' held')
    → Goes breaks mid.cpu.memory.text (segments mid.cpu.memory) k (core_of mid.cpu) (core_of cpu)
    → Stands (before_break breaks old.text (segments old)) breaks old.text (segments old) n (left - 1 - k) s first (record mid { cpu = cpu }) input' held'
stands_turned breaks old now k n left s first from to mid cpu input held input' held' kept kept_mid some within most is_mid h cycled goes =
    let next = stands_cycled breaks old now n left s first from to input held input' held' kept some within h cycled in
    let here = subst (λ (q : MachineParts). Stands (before_break breaks old.text (segments old)) breaks old.text (segments old) n (left - 1) s first q input' held') is_mid next in
    stands_advanced breaks old k n (left - 1) s first mid cpu input' held' kept_mid most (omega (arith, within)) here goes

-- whether pc is a break address there, by what the processor and the set of them answer
pub at_break : (breaks : ℕ → Bool) (cpu : CpuParts) (t : State) (pc : ℕ) (answer is : Bool) → core_of cpu ≡ t.core → pc ≡ cpu.pc
    → answer ≡ breaks pc → answer ≡ is → breaks t.core.pc ≡ is
at_break breaks cpu t pc answer is core at contains told = ap (λ (c : Core). breaks c.pc) (sym core) ∙ ap breaks (sym at) ∙ sym contains ∙ told

-- as many more as another count says
pub stands_as : (further again : ℕ → State → ℕ) (breaks : ℕ → Bool) (text : List ℕ) (b : Segments) (n left : ℕ) (s : State)
    (first : Option (List ℕ)) (m : MachineParts) (input held : Option (List ℕ))
    → ((t : State) → IsIn first t m input held → further left t ≡ again left t)
    → Stands further breaks text b n left s first m input held → Stands again breaks text b n left s first m input held
stands_as further again breaks text b n left s first m input held same h =
    record { state = h.state; runs = h.runs; count = h.count ∙ ap (λ k. n - left + k) (same h.state h.is); is = h.is }

-- if none is left, the run has stopped
pub stops_there : (further : ℕ → State → ℕ) (breaks : ℕ → Bool) (text : List ℕ) (b : Segments) (n left : ℕ) (s : State)
    (first : Option (List ℕ)) (m : MachineParts) (input held : Option (List ℕ))
    → ((t : State) → IsIn first t m input held → further left t ≡ 0)
    → Stands further breaks text b n left s first m input held
    → RanTo breaks text b n s first (record { halt = halts.StepLimit; executed = n - left }) m input held
stops_there further breaks text b n left s first m input held none h =
    let here : further left h.state ≡ 0 = none h.state h.is in
    let before : moved breaks text b n s ≡ n - left + further left h.state = h.count in
    let all : n - left ≡ moved breaks text b n s = omega (arith, before, here) in
    record { ran = (h.state, ap (λ i. run text b i s) (sym all) ∙ h.runs, h.is); executed = all }

-- an instruction at which a run ends is the last that counts
last_counts : (text : List ℕ) (b : Segments) (k n : ℕ) (s t : State) (first : Option (List ℕ)) (halt : Halt) (m : MachineParts)
    (left held : Option (List ℕ)) (later : State → ℕ) (executed : ℕ)
    (runs : run text b k s ≡ Running t) (below : k < n) (ends : Cycled text b t first (Err halt) m left held)
    → (counted (cycle text b t) later ≡ 1 → executed ≡ n) → executed ≡ suc k
    → executed ≡ executed_in text b n s first halt m left held (ran_ends text b k n s t first halt m left held runs below ends)
unfolding ran_ends
last_counts text b k n s t first (halts.Exit code) m left held later executed runs below (next, ends, is) all so_far = all (ap (λ (o : Outcome). counted o later) ends)
last_counts text b k n s t first (halts.Trap trap) m left held later executed runs below (next, ends, is) all so_far = all (ap (λ (o : Outcome). counted o later) ends)
last_counts text b k n s t first halts.StepLimit m left held later executed runs below ends all so_far = absurd ends
last_counts text b k n s t first halts.ReadFault m left held later executed runs below (core, calls, fails) all so_far = so_far
last_counts text b k n s t first halts.WriteFault m left held later executed runs below (core, calls, fails) all so_far = so_far

-- after that
pub ran_to_end : (breaks : ℕ → Bool) (old now : MemoryParts) (n left : ℕ) (s : State) (first : Option (List ℕ)) (halt : Halt)
    (mid m : MachineParts) (input held input' held' : Option (List ℕ)) → KeepsSegments old now → 0 < left → left ≤ n
    → Stands (moved breaks old.text (segments old)) breaks old.text (segments old) n left s first mid input held
    → ((t : State) → IsIn first t mid input held → Cycled now.text (segments now) t first (Err halt) m input' held')
    → RanTo breaks old.text (segments old) n s first (record { halt = halt; executed = n - (left - 1) }) m input' held'
ran_to_end breaks old now n left s first halt mid m input held input' held' kept some within h cycled =
    let turn = cycled_as old now h.state first (Err halt) m input' held' kept (cycled h.state h.is) in
    let later = before_break breaks old.text (segments old) (left - 1) in
    let all : left ≡ suc (left - 1) = omega (arith, some) in
    let last : moved breaks old.text (segments old) left h.state ≡ counted (cycle old.text (segments old) h.state) later = ap (λ i. moved breaks old.text (segments old) i h.state) all in
    let before : moved breaks old.text (segments old) n s ≡ n - left + moved breaks old.text (segments old) left h.state = h.count in
    let counts : 0 < counted (cycle old.text (segments old) h.state) later = counted_some (cycle old.text (segments old) h.state) later in
    let below : n - left < moved breaks old.text (segments old) n s = omega (arith, before, last, counts) in
    record {
      ran = ran_ends old.text (segments old) (n - left) (moved breaks old.text (segments old) n s) s h.state first halt m input' held' h.runs below turn;
      executed = last_counts old.text (segments old) (n - left) (moved breaks old.text (segments old) n s) s h.state first halt m input' held' later (n - (left - 1)) h.runs below turn
          (λ one. omega (arith, before, last, one, some, within)) (omega (arith, some, within));
    }

-- also of a machine that notes how its run ended
pub ran_to_noted : (breaks : ℕ → Bool) (text : List ℕ) (b : Segments) (n : ℕ) (s : State) (first : Option (List ℕ)) (halt : Halt)
    (executed : ℕ) (m : MachineParts) (left held : Option (List ℕ)) (halted : Option Halt)
    → RanTo breaks text b n s first (record { halt = halt; executed = executed }) m left held
    → RanTo breaks text b n s first (record { halt = halt; executed = executed }) (record m { halted = halted }) left held
ran_to_noted breaks text b n s first halt executed m left held halted h = record {
  ran = ran_noted text b (moved breaks text b n s) s first halt m left held halted h.ran;
  executed = h.executed ∙ noted_counts text b (moved breaks text b n s) s first halt m left held halted h.ran;
}
