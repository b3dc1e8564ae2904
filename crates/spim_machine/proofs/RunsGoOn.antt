-- A run of n instructions is continued by the next one: the next instruction goes on, exits or traps, and a second budget of instructions continues the run
-- after the first.
use Rattle.std.proofs.Common.{◌≡◌, ◌≢◌, ◌∙◌, refl, sym, ap, ℕ, suc, ◌+◌, ◌-◌, ◌<◌, List, Option, Bool, arith}
use Rattle.std.specs.Prelude.{Err}
use Rattle.mips_isa.specs.declared.trap.Trap.{Trap}
use Rattle.mips_isa.specs.Bytes.{Segments}
use Rattle.mips_isa.specs.Machine.{Core}
use Rattle.mips_isa.specs.Calls.{State, Outcome, Running, Exited, Trapped}
use Rattle.mips_isa.specs.Run.{cycle, and_then, run}
use Rattle.mips_isa.proofs.RunsInParts.{run_sum}
use Rattle.spim_machine.specs.declared.halt.Halt.{Halt}
use Rattle.spim_machine.specs.declared.halt.Halt.TheVariants as halts
use Rattle.spim_machine.specs.MachineStates.{MachineParts, state_of, IsIn}
use Rattle.spim_cpu.specs.Cpu.{core_of}
use Rattle.spim_machine.specs.Ends.{Cycled, ComesToCall, Ran}

-- after an instruction that goes on comes the next one
pub run_next : (text : List ℕ) (b : Segments) (k : ℕ) (s t u : State) → run text b k s ≡ Running t → cycle text b t ≡ Running u
    → run text b (k + 1) s ≡ Running u
run_next text b k s t u runs next = run_sum text b k 1 s ∙ rw (runs, next) refl

-- a longer run goes on after the instructions of a shorter one
run_after : (text : List ℕ) (b : Segments) (k n : ℕ) (s t : State) → run text b k s ≡ Running t → k < n
    → run text b n s ≡ and_then (cycle text b t) (run text b (n - (k + 1)))
run_after text b k n s t runs below =
    let parts : n ≡ k + suc (n - (k + 1)) = omega (arith, below) in
    ap (λ i. run text b i s) parts ∙ run_sum text b k (suc (n - (k + 1))) s ∙ rw runs refl

-- if the next instruction exits or traps, so does each longer run
pub run_exits : (text : List ℕ) (b : Segments) (k n code : ℕ) (s t u : State) → run text b k s ≡ Running t
    → cycle text b t ≡ Exited code u → k < n → run text b n s ≡ Exited code u
run_exits text b k n code s t u runs next below = run_after text b k n s t runs below ∙ rw next refl

pub run_traps : (text : List ℕ) (b : Segments) (k n : ℕ) (trap : Trap) (s t u : State) → run text b k s ≡ Running t
    → cycle text b t ≡ Trapped trap u → k < n → run text b n s ≡ Trapped trap u
run_traps text b k n trap s t u runs next below = run_after text b k n s t runs below ∙ rw next refl

-- the end of the next instruction is that of each longer run
unfoldable pub ran_ends : (text : List ℕ) (b : Segments) (k n : ℕ) (s t : State) (first : Option (List ℕ)) (halt : Halt)
    (m : MachineParts) (left held : Option (List ℕ)) → run text b k s ≡ Running t → k < n
    → Cycled text b t first (Err halt) m left held → Ran text b n s first halt m left held
ran_ends text b k n s t first (halts.Exit code) m left held runs below (next, ends, is) = (next, run_exits text b k n code s t next runs ends below, is)
ran_ends text b k n s t first (halts.Trap trap) m left held runs below (next, ends, is) = (next, run_traps text b k n trap s t next runs ends below, is)
ran_ends text b k n s t first halts.StepLimit m left held runs below ends = absurd ends
ran_ends text b k n s t first halts.ReadFault m left held runs below (core, calls, fails) =
    (record t { core = core }, record { count = k; below = below; before = t; runs = runs; core = core; calls = calls; at_is = refl }, fails)
ran_ends text b k n s t first halts.WriteFault m left held runs below (core, calls, fails) =
    (record t { core = core }, record { count = k; below = below; before = t; runs = runs; core = core; calls = calls; at_is = refl }, fails)

-- a run after a run, as one run
pub run_both : (text : List ℕ) (b : Segments) (m n : ℕ) (s t : State) → run text b m s ≡ Running t → run text b (m + n) s ≡ run text b n t
run_both text b m n s t runs = run_sum text b m n s ∙ rw runs refl

-- the system call to which the second run comes
comes_on : (text : List ℕ) (b : Segments) (m n : ℕ) (s t at : State) → run text b m s ≡ Running t → ComesToCall text b n t at
    → ComesToCall text b (m + n) s at
comes_on text b m n s t at runs h = record {
  count = m + h.count;
  below = omega (arith, h.below);
  before = h.before;
  runs = run_both text b m h.count s t runs ∙ h.runs;
  core = h.core;
  calls = h.calls;
  at_is = h.at_is;
}

-- the second run from the state in which the first one stands
pub ran_on_from : (text : List ℕ) (b : Segments) (m n : ℕ) (s t : State) (first : Option (List ℕ)) (halt : Halt)
    (last : MachineParts) (left held : Option (List ℕ)) → run text b m s ≡ Running t → Ran text b n t first halt last left held
    → Ran text b (m + n) s first halt last left held
ran_on_from text b m n s t first (halts.Exit code) last left held runs (end, ends, is) = (end, run_both text b m n s t runs ∙ ends, is)
ran_on_from text b m n s t first (halts.Trap trap) last left held runs (end, ends, is) = (end, run_both text b m n s t runs ∙ ends, is)
ran_on_from text b m n s t first halts.StepLimit last left held runs (end, ends, is) = (end, run_both text b m n s t runs ∙ ends, is)
ran_on_from text b m n s t first halts.ReadFault last left held runs (at, comes, fails) = (at, comes_on text b m n s t at runs comes, fails)
ran_on_from text b m n s t first halts.WriteFault last left held runs (at, comes, fails) = (at, comes_on text b m n s t at runs comes, fails)

-- The law of two budgets: a run of n instructions after one of m that spent its budget is as one of m + n.
pub ran_on : (text : List ℕ) (b : Segments) (m n : ℕ) (s : State) (first : Option (List ℕ)) (mid last : MachineParts) (halt : Halt)
    (left held left' held' : Option (List ℕ))
    → Ran text b m s first halts.StepLimit mid left held
    → ((t : State) → IsIn first t mid left held → Ran text b n t first halt last left' held')
    → Ran text b (m + n) s first halt last left' held'
ran_on text b m n s first mid last halt left held left' held' (t, runs, is) then = ran_on_from text b m n s t first halt last left' held' runs (then t is)

-- an end of the first run is the end of both
run_stays : (text : List ℕ) (b : Segments) (m n : ℕ) (s : State) (o : Outcome) → run text b m s ≡ o
    → run text b (m + n) s ≡ and_then o (run text b n)
run_stays text b m n s o ends = run_sum text b m n s ∙ ap (λ q. and_then q (run text b n)) ends

comes_before : (text : List ℕ) (b : Segments) (m n : ℕ) (s at : State) → ComesToCall text b m s at → ComesToCall text b (m + n) s at
comes_before text b m n s at h = record {
  count = h.count;
  below = omega (arith, h.below);
  before = h.before;
  runs = h.runs;
  core = h.core;
  calls = h.calls;
  at_is = h.at_is;
}

pub ran_ended : (text : List ℕ) (b : Segments) (m n : ℕ) (s : State) (first : Option (List ℕ)) (last : MachineParts) (halt : Halt)
    (left held : Option (List ℕ))
    → halt ≢ halts.StepLimit → Ran text b m s first halt last left held → Ran text b (m + n) s first halt last left held
ran_ended text b m n s first last (halts.Exit code) left held other (end, ends, is) = (end, run_stays text b m n s (Exited code end) ends, is)
ran_ended text b m n s first last (halts.Trap trap) left held other (end, ends, is) = (end, run_stays text b m n s (Trapped trap end) ends, is)
ran_ended text b m n s first last halts.StepLimit left held other ran = absurd (other refl)
ran_ended text b m n s first last halts.ReadFault left held other (at, comes, fails) = (at, comes_before text b m n s at comes, fails)
ran_ended text b m n s first last halts.WriteFault left held other (at, comes, fails) = (at, comes_before text b m n s at comes, fails)

-- a state with another core, another break, another answer of whether the end was met
abbrev with_core : State → Core → State
with_core s core = record s { core = core }

abbrev with_heap_break : State → ℕ → State
with_heap_break s heap_break = record s { heap_break = heap_break }

abbrev with_ended : State → Bool → State
with_ended s ended = record s { ended = ended }

-- the state in which a machine is has the machine's parts
pub is_state : (first : Option (List ℕ)) (s : State) (m : MachineParts) (left held : Option (List ℕ)) → IsIn first s m left held
    → s ≡ state_of m s.input s.output
is_state first s m left held is = ap (with_core s) (sym is.core) ∙ ap (with_heap_break (with_core s (core_of m.cpu))) (sym is.heap_break) ∙ ap (with_ended (with_heap_break (with_core s (core_of m.cpu)) m.heap_break)) (sym is.ended)
