-- A run up to a breakpoint that has no breakpoints is a run with the whole budget of instructions.
use Rattle.std.proofs.Common.{◌≡◌, ◌∙◌, refl, sym, ap, ℕ, zero, suc, ◌≤◌, Bool, false, List, Option, arith}
use Rattle.mips_isa.specs.Bytes.{Segments}
use Rattle.mips_isa.specs.Calls.{State, Outcome, Running, Exited, Trapped}
use Rattle.mips_isa.specs.Run.{cycle, and_then, run}
use Rattle.spim_machine.specs.declared.halt.Halt.{Halt}
use Rattle.spim_machine.specs.declared.halt.Halt.TheVariants as halts
use Rattle.spim_machine.specs.MachineStates.{MachineParts}
use Rattle.spim_machine.specs.Ends.{ComesToCall, Ran}
use Rattle.spim_machine.specs.Counting.{counted, before_break, moved}
use Rattle.spim_machine.proofs.CountsOfRuns.{moved_within}

-- no address is one to stop at
abbrev pub nowhere : ℕ → Bool
nowhere = λ address. false

-- after an instruction, a run of those that count is one of those that the budget has
counted_runs : (text : List ℕ) (b : Segments) (n : ℕ) (s : State) (o : Outcome) (later : State → ℕ)
    → ((t : State) → run text b (later t) t ≡ run text b n t) → cycle text b s ≡ o
    → run text b (counted o later) s ≡ and_then o (run text b n)
counted_runs text b n s (Running t) later same next = ap (λ (o : Outcome). and_then o (run text b (later t))) next ∙ same t
counted_runs text b n s (Exited code t) later same next = ap (λ (o : Outcome). and_then o (run text b 0)) next
counted_runs text b n s (Trapped trap t) later same next = ap (λ (o : Outcome). and_then o (run text b 0)) next

before_runs : (text : List ℕ) (b : Segments) (n : ℕ) (s : State) → run text b (before_break nowhere text b n s) s ≡ run text b n s
before_runs text b zero s = refl
before_runs text b (suc n) s = counted_runs text b n s (cycle text b s) (before_break nowhere text b n) (before_runs text b n) refl

moved_runs : (text : List ℕ) (b : Segments) (n : ℕ) (s : State) → run text b (moved nowhere text b n s) s ≡ run text b n s
moved_runs text b zero s = refl
moved_runs text b (suc n) s = counted_runs text b n s (cycle text b s) (before_break nowhere text b n) (before_runs text b n) refl

-- a call to which a shorter run comes
comes_within : (text : List ℕ) (b : Segments) (k n : ℕ) (s at : State) → k ≤ n → ComesToCall text b k s at → ComesToCall text b n s at
comes_within text b k n s at within h = record {
  count = h.count;
  below = omega (arith, h.below, within);
  before = h.before;
  runs = h.runs;
  core = h.core;
  calls = h.calls;
  at_is = h.at_is;
}

-- the end of the run
pub ran_without_breaks : (text : List ℕ) (b : Segments) (n : ℕ) (s : State) (first : Option (List ℕ)) (halt : Halt)
    (m : MachineParts) (left held : Option (List ℕ))
    → Ran text b (moved nowhere text b n s) s first halt m left held → Ran text b n s first halt m left held
ran_without_breaks text b n s first (halts.Exit code) m left held (end, ends, is) = (end, sym (moved_runs text b n s) ∙ ends, is)
ran_without_breaks text b n s first (halts.Trap trap) m left held (end, ends, is) = (end, sym (moved_runs text b n s) ∙ ends, is)
ran_without_breaks text b n s first halts.StepLimit m left held (end, ends, is) = (end, sym (moved_runs text b n s) ∙ ends, is)
ran_without_breaks text b n s first halts.ReadFault m left held (at, comes, fails) = (at, comes_within text b (moved nowhere text b n s) n s at (moved_within nowhere text b n s) comes, fails)
ran_without_breaks text b n s first halts.WriteFault m left held (at, comes, fails) = (at, comes_within text b (moved nowhere text b n s) n s at (moved_within nowhere text b n s) comes, fails)
