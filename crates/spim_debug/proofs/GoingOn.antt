-- If a debugger command executes instructions (a number of them, up to a breakpoint, or to the end), the debugged run stands where the definition says, or a
-- read or write failed.
use Rattle.std.proofs.Common.{◌≡◌, ◌≢◌, ◌∙◌, refl, sym, ap, subst, ℕ, ◌+◌, ◌-◌, ◌≤◌, Bool, List, length, arith}
use Rattle.std.proofs.Math.Path.{fun_ext}
use Rattle.std.specs.Prelude.{min, Option, Some, None}
use Rattle.cool_ports.specs.Answers.{Past, Leaves}
use Rattle.cool_ports.proofs.InputsInParts.{leaves_same}
use Rattle.mips_isa.specs.Bytes.{Segments}
use Rattle.mips_isa.specs.Calls.{State, Outcome, Running, Exited, Trapped}
use Rattle.mips_isa.specs.Run.{and_then, run}
use Rattle.spim_memory.specs.Memory.{segments}
use Rattle.spim_cpu.specs.Cpu.{KeepsSegments}
use Rattle.spim_machine.specs.declared.halt.Halt.{Halt}
use Rattle.spim_machine.specs.declared.halt.Halt.TheVariants as halts
use Rattle.spim_machine.specs.declared.halt.Stopped.{Stopped}
use Rattle.spim_machine.specs.MachineStates.{MachineParts, IsIn, halted_by}
use Rattle.spim_machine.specs.Ends.{Ran}
use Rattle.spim_machine.specs.Counting.{moved, executed_in, RanTo}
use Rattle.mips_isa.proofs.RunsInParts.{run_sum}
use Rattle.spim_machine.proofs.CountsOfRuns.{moved_within}
use Rattle.spim_machine.proofs.RunsWithoutBreaks.{ran_without_breaks}
use Rattle.spim_machine.proofs.RunsGoOn.{ran_on_from, ran_ended}
use Rattle.spim_debug.specs.declared.debugger.Debugger.{Debugger}
use Rattle.spim_machine.specs.Puts.{output_of}
use Rattle.spim_debug.specs.BreakSets.{in_set}
use Rattle.spim_debug.specs.ByteCounts.{counted, GrewBy}
use Rattle.spim_debug.specs.Moves.{Debuggee, Progress, outcome, further, go_on, no_break, is_break}
use Rattle.spim_debug.specs.Notes.{state_in}
use Rattle.spim_debug.specs.Debugging.{StandsAtEnd, FailsWithin}
use Rattle.spim_debug.specs.Obeying.{halted_in, Stands, Fails, EndsFrom}

-- The outcome of going on from p to q: the debugger stands there, and its machine has halted so, unless a call failed on the way.
abbrev pub WentOn : Debuggee → Progress → Progress → Option (List ℕ) → Halt → Debugger → Option (List ℕ) → Option (List ℕ) → Type 0
WentOn d p q first (halts.Exit code) x left held = Stands d q first x left held × (x.machine.halted ≡ Some (halts.Exit code))
WentOn d p q first (halts.Trap trap) x left held = Stands d q first x left held × (x.machine.halted ≡ Some (halts.Trap trap))
WentOn d p q first halts.StepLimit x left held = Stands d q first x left held × (x.machine.halted ≡ None)
WentOn d p q first halts.ReadFault x left held = Fails d p (q.executed - p.executed) first halts.ReadFault left held
WentOn d p q first halts.WriteFault x left held = Fails d p (q.executed - p.executed) first halts.WriteFault left held

-- a debugger after so many more instructions, which has put so many bytes
abbrev pub after_run : Debugger → MachineParts → ℕ → ℕ → Debugger
after_run x m count printed = record x { machine = m; executed = x.executed + count; printed = printed }

-- it stands where the run's outcome is
stands_at : (d : Debuggee) (p q : Progress) (first : Option (List ℕ)) (x : Debugger) (m : MachineParts) (count printed : ℕ)
    (left held left' held' : Option (List ℕ)) (o : Outcome)
    → Stands d p first x left held → KeepsSegments x.machine.cpu.memory m.cpu.memory
    → q.executed ≡ p.executed + count → q.breaks ≡ p.breaks → count ≤ d.budget - p.executed
    → outcome d q.executed ≡ o → IsIn first (state_in o) m left' held' → m.halted ≡ halted_in o
    → printed ≡ counted (length (state_in o).output) → Stands d q first (after_run x m count printed) left' held'
stands_at d p q first x m count printed left held left' held' o st keeps on same fits is state halted told = record {
  text = keeps.text ∙ st.text;
  segments = keeps.segments ∙ st.segments;
  budget = st.budget;
  executed = ap (λ (n : ℕ). n + count) st.executed ∙ sym on;
  within = omega (arith, st.executed, st.budget, st.within, fits);
  state = subst (λ (r : Outcome). IsIn first (state_in r) m left' held') (sym is) state;
  halted = halted ∙ ap (λ (r : Outcome). halted_in r) (sym is);
  breaks = λ a. st.breaks a ∙ ap (λ (bs : List ℕ). is_break bs a) (sym same);
  printed = told ∙ ap (λ (r : Outcome). counted (length (state_in r).output)) (sym is);
}

-- a call that failed in it is one in which the whole run fails
fails_so : (d : Debuggee) (p : Progress) (first : Option (List ℕ)) (halt : Halt) (m : MachineParts) (left held : Option (List ℕ))
    (n : ℕ) → halt ≢ halts.StepLimit → p.executed + n ≤ d.budget
    → Ran d.text d.segments (p.executed + n) d.start first halt m left held → StandsAtEnd d halt first left held
fails_so d p first halt m left held n other fits ran =
    let all : p.executed + n + (d.budget - (p.executed + n)) ≡ d.budget = omega (arith, fits) in
    record {
      machine = m;
      ran = subst (λ (k : ℕ). Ran d.text d.segments k d.start first halt m left held) all (ran_ended d.text d.segments (p.executed + n) (d.budget - (p.executed + n)) d.start first m halt left held other ran);
    }

-- the number of instructions that may be executed at once, of so many
abbrev pub span : Debuggee → Progress → ℕ → ℕ
span d p most = min most (d.budget - p.executed)

span_fits : (most room count : ℕ) → count ≤ min most room → count ≤ room
span_fits most room count fits = grind (arith, fits)

-- it stands after a run that led on
stands_run : (d : Debuggee) (p : Progress) (breaks : ℕ → Bool) (most : ℕ) (first : Option (List ℕ)) (x : Debugger)
    (m : MachineParts) (executed printed : ℕ) (left held left' held' : Option (List ℕ)) (s : State) (o : Outcome)
    → Stands d p first x left held → KeepsSegments x.machine.cpu.memory m.cpu.memory → outcome d p.executed ≡ Running s
    → run d.text d.segments (moved breaks d.text d.segments (span d p most) s) s ≡ o
    → executed ≡ moved breaks d.text d.segments (span d p most) s
    → IsIn first (state_in o) m left' held' → m.halted ≡ halted_in o
    → printed ≡ counted (length (state_in (run d.text d.segments executed s)).output)
    → Stands d (go_on d breaks most p) first (after_run x m executed printed) left' held'
stands_run d p breaks most first x m executed printed left held left' held' s o st keeps is ends count state halted told =
    let run_count : ℕ = moved breaks d.text d.segments (span d p most) s in
    let on : p.executed + further d breaks (span d p most) (outcome d p.executed) ≡ p.executed + run_count = ap (λ (r : Outcome). p.executed + further d breaks (span d p most) r) is in
    stands_at d p (go_on d breaks most p) first x m executed printed left held left' held' o st keeps
    (on ∙ ap (λ (k : ℕ). p.executed + k) (sym count)) refl
    (subst (λ (k : ℕ). k ≤ d.budget - p.executed) (sym count) (span_fits most (d.budget - p.executed) run_count (moved_within breaks d.text d.segments (span d p most) s)))
    (ap (λ (k : ℕ). outcome d k) on ∙ run_sum d.text d.segments p.executed run_count d.start ∙ ap (λ (q : Outcome). and_then q (run d.text d.segments run_count)) is ∙ ends)
    state halted
    (told ∙ ap (λ (k : ℕ). counted (length (state_in (run d.text d.segments k s)).output)) count ∙ ap (λ (r : Outcome). counted (length (state_in r).output)) ends)

-- it fails in a run from where it stood
fails_run : (d : Debuggee) (p : Progress) (breaks : ℕ → Bool) (most : ℕ) (first : Option (List ℕ)) (x : Debugger) (halt : Halt)
    (m : MachineParts) (left held left' held' : Option (List ℕ)) (s : State)
    → halt ≢ halts.StepLimit → Stands d p first x left held → outcome d p.executed ≡ Running s
    → Ran d.text d.segments (moved breaks d.text d.segments (span d p most) s) s first halt m left' held'
    → Fails d p ((go_on d breaks most p).executed - p.executed) first halt left' held'
fails_run d p breaks most first x halt m left held left' held' s other st is ran =
    let run_count : ℕ = moved breaks d.text d.segments (span d p most) s in
    let fits : run_count ≤ d.budget - p.executed = span_fits most (d.budget - p.executed) run_count (moved_within breaks d.text d.segments (span d p most) s) in
    let on : (go_on d breaks most p).executed ≡ p.executed + run_count = ap (λ (r : Outcome). p.executed + further d breaks (span d p most) r) is in
    let all : run_count ≡ (go_on d breaks most p).executed - p.executed = omega (arith, on) in
    record {
      ends = fails_so d p first halt m left' held' run_count other (omega (arith, fits, st.executed, st.budget, st.within))
          (ran_on_from d.text d.segments p.executed run_count d.start s first halt m left' held' is ran);
      within = record { state = s; goes_on = is; machine = m; ran = subst (λ (k : ℕ). Ran d.text d.segments k s first halt m left' held') all ran };
    }

-- the bytes that were put are all of the output, unless a read or a write failed
abbrev HasPut : Halt → ℕ → List ℕ → Type 0
HasPut (halts.Exit code) printed output = printed ≡ counted (length output)
HasPut (halts.Trap trap) printed output = printed ≡ counted (length output)
HasPut halts.StepLimit printed output = printed ≡ counted (length output)
HasPut halts.ReadFault printed output = Unit {0}
HasPut halts.WriteFault printed output = Unit {0}

-- the outcome from a state in which the run goes on
went_running : (d : Debuggee) (p : Progress) (breaks : ℕ → Bool) (most : ℕ) (first : Option (List ℕ)) (x : Debugger) (halt : Halt)
    (m : MachineParts) (executed printed : ℕ) (left held left' held' : Option (List ℕ)) (s : State)
    → Stands d p first x left held → KeepsSegments x.machine.cpu.memory m.cpu.memory → outcome d p.executed ≡ Running s
    → (ran : Ran d.text d.segments (moved breaks d.text d.segments (span d p most) s) s first halt m left' held')
    → executed ≡ executed_in d.text d.segments (moved breaks d.text d.segments (span d p most) s) s first halt m left' held' ran
    → m.halted ≡ halted_by halt → HasPut halt printed (state_in (run d.text d.segments executed s)).output
    → WentOn d p (go_on d breaks most p) first halt (after_run x m executed printed) left' held'
went_running d p breaks most first x (halts.Exit code) m executed printed left held left' held' s st keeps is (end, ends, at) count halted told =
    (stands_run d p breaks most first x m executed printed left held left' held' s (Exited code end) st keeps is ends count at halted told, halted)
went_running d p breaks most first x (halts.Trap trap) m executed printed left held left' held' s st keeps is (end, ends, at) count halted told =
    (stands_run d p breaks most first x m executed printed left held left' held' s (Trapped trap end) st keeps is ends count at halted told, halted)
went_running d p breaks most first x halts.StepLimit m executed printed left held left' held' s st keeps is (end, ends, at) count halted told =
    (stands_run d p breaks most first x m executed printed left held left' held' s (Running end) st keeps is ends count at halted told, halted)
went_running d p breaks most first x halts.ReadFault m executed printed left held left' held' s st keeps is ran count halted told =
    fails_run d p breaks most first x halts.ReadFault m left held left' held' s (λ e. absurd cc) st is ran
went_running d p breaks most first x halts.WriteFault m executed printed left held left' held' s st keeps is ran count halted told =
    fails_run d p breaks most first x halts.WriteFault m left held left' held' s (λ e. absurd cc) st is ran

-- after an end nothing is executed
went_ended : (d : Debuggee) (p : Progress) (breaks : ℕ → Bool) (most : ℕ) (first : Option (List ℕ)) (x : Debugger) (halt : Halt)
    (left held : Option (List ℕ)) (o : Outcome)
    → Stands d p first x left held → outcome d p.executed ≡ o → x.machine.halted ≡ Some halt
    → WentOn d p (go_on d breaks most p) first halt (after_run x x.machine 0 x.printed) left held
went_ended d p breaks most first x halt left held (Running s) st is halted =
    let none : x.machine.halted ≡ None = st.halted ∙ ap (λ (r : Outcome). halted_in r) is in
    absurd cc
went_ended d p breaks most first x halt left held (Exited code s) st is halted =
    let was : x.machine.halted ≡ Some (halts.Exit code) = st.halted ∙ ap (λ (r : Outcome). halted_in r) is in
    let same : halts.Exit code ≡ halt = cc in
    let on : p.executed + further d breaks (span d p most) (outcome d p.executed) ≡ p.executed + 0 = ap (λ (r : Outcome). p.executed + further d breaks (span d p most) r) is in
    let stays : p.executed + further d breaks (span d p most) (outcome d p.executed) ≡ p.executed = on ∙ omega arith in
    subst (λ (h : Halt). WentOn d p (go_on d breaks most p) first h (after_run x x.machine 0 x.printed) left held) same (
      stands_at d p (go_on d breaks most p) first x x.machine 0 x.printed left held left held (Exited code s) st (record { text = refl; segments = refl }) on refl (omega arith)
          (ap (λ (k : ℕ). outcome d k) stays ∙ is) (subst (λ (r : Outcome). IsIn first (state_in r) x.machine left held) is st.state) was
          (st.printed ∙ ap (λ (r : Outcome). counted (length (state_in r).output)) is),
      was,
    )
went_ended d p breaks most first x halt left held (Trapped trap s) st is halted =
    let was : x.machine.halted ≡ Some (halts.Trap trap) = st.halted ∙ ap (λ (r : Outcome). halted_in r) is in
    let same : halts.Trap trap ≡ halt = cc in
    let on : p.executed + further d breaks (span d p most) (outcome d p.executed) ≡ p.executed + 0 = ap (λ (r : Outcome). p.executed + further d breaks (span d p most) r) is in
    let stays : p.executed + further d breaks (span d p most) (outcome d p.executed) ≡ p.executed = on ∙ omega arith in
    subst (λ (h : Halt). WentOn d p (go_on d breaks most p) first h (after_run x x.machine 0 x.printed) left held) same (
      stands_at d p (go_on d breaks most p) first x x.machine 0 x.printed left held left held (Trapped trap s) st (record { text = refl; segments = refl }) on refl (omega arith)
          (ap (λ (k : ℕ). outcome d k) stays ∙ is) (subst (λ (r : Outcome). IsIn first (state_in r) x.machine left held) is st.state) was
          (st.printed ∙ ap (λ (r : Outcome). counted (length (state_in r).output)) is),
      was,
    )

-- a machine that has not halted is in a running state
is_running : (o : Outcome) → halted_in o ≡ None → (s : State) × (o ≡ Running s)
is_running (Running s) none = (s, refl)
is_running (Exited code s) none = absurd cc
is_running (Trapped trap s) none = absurd cc

-- The results of a run, from any state that the machine of a debugger is in: by its clauses, or the same again after an end.
pub record Answers (breaks : ℕ → Bool) (n : ℕ) (first : Option (List ℕ)) (x : Debugger) (stopped : Stopped) (m : MachineParts) (left held left' held' : Option (List ℕ)) : Type 0 where
  pub keeps : KeepsSegments x.machine.cpu.memory m.cpu.memory
  pub ran : x.machine.halted ≡ None → (s : State) → IsIn first s x.machine left held
      → RanTo breaks x.machine.cpu.memory.text (segments x.machine.cpu.memory) n s first stopped m left' held'
  pub halted : x.machine.halted ≡ None → m.halted ≡ halted_by stopped.halt
  pub again : (halt : Halt) → x.machine.halted ≡ Some halt → stopped ≡ record { halt = halt; executed = 0 }
  pub machine : (halt : Halt) → x.machine.halted ≡ Some halt → m ≡ x.machine
  pub left_same : (halt : Halt) → x.machine.halted ≡ Some halt → left' ≡ left
  pub held_same : (halt : Halt) → x.machine.halted ≡ Some halt → held' ≡ held

-- the results of a run for an input that its source may have had
pub answers_of : (breaks : ℕ → Bool) (n n' : ℕ) (first : Option (List ℕ)) (x : Debugger) (stopped : Stopped) (m : MachineParts)
    (before after : Past) (input rest : List ℕ) (held held' : Option (List ℕ))
    → n ≡ n' → Leaves before after input rest → KeepsSegments x.machine.cpu.memory m.cpu.memory
    → ((s : State) → x.machine.halted ≡ None → IsIn first s x.machine (Some input) held → RanTo breaks x.machine.cpu.memory.text (segments x.machine.cpu.memory) n s first stopped m (Some rest) held')
    → (x.machine.halted ≡ None → m.halted ≡ halted_by stopped.halt)
    → ((halt : Halt) → x.machine.halted ≡ Some halt → stopped ≡ record { halt = halt; executed = 0 })
    → ((halt : Halt) → x.machine.halted ≡ Some halt → m ≡ x.machine)
    → ((halt : Halt) → x.machine.halted ≡ Some halt → after ≡ before)
    → ((halt : Halt) → x.machine.halted ≡ Some halt → held' ≡ held)
    → Answers breaks n' first x stopped m (Some input) held (Some rest) held'
answers_of breaks n n' first x stopped m before after input rest held held' same leaves keeps ran halted again machine source sink = record {
  keeps = keeps;
  ran = λ none s is. subst (λ (k : ℕ). RanTo breaks x.machine.cpu.memory.text (segments x.machine.cpu.memory) k s first stopped m (Some rest) held') same (ran s none is);
  halted = halted;
  again = again;
  machine = machine;
  left_same = λ halt h. ap Some (leaves_same before input rest (subst (λ (q : Past). Leaves before q input rest) (source halt h) leaves));
  held_same = sink;
}

-- the state of a machine, and the run from it, where it has not halted
record RunsFrom (d : Debuggee) (p : Progress) (breaks : ℕ → Bool) (n : ℕ) (first : Option (List ℕ)) (stopped : Stopped) (m : MachineParts) (left' held' : Option (List ℕ)) : Type 0 where
  state : State
  is : outcome d p.executed ≡ Running state
  runs : RanTo breaks d.text d.segments n state first stopped m left' held'

runs_from : (d : Debuggee) (p : Progress) (breaks : ℕ → Bool) (n : ℕ) (first : Option (List ℕ)) (x : Debugger) (stopped : Stopped)
    (m : MachineParts) (left held left' held' : Option (List ℕ))
    → Stands d p first x left held → Answers breaks n first x stopped m left held left' held' → x.machine.halted ≡ None
    → RunsFrom d p breaks n first stopped m left' held'
runs_from d p breaks n first x stopped m left held left' held' st a none =
    let found = is_running (outcome d p.executed) (sym st.halted ∙ none) in
    let at : IsIn first found.0 x.machine left held = subst (λ (r : Outcome). IsIn first (state_in r) x.machine left held) found.1 st.state in
    record {
      state = found.0;
      is = found.1;
      runs = subst (λ (b : Segments). RanTo breaks d.text b n found.0 first stopped m left' held') st.segments
          (subst (λ (text : List ℕ). RanTo breaks text (segments x.machine.cpu.memory) n found.0 first stopped m left' held') st.text (a.ran none found.0 at));
    }

-- The bytes that a run put, by its count.
pub record Counts (first : Option (List ℕ)) (x : Debugger) (stopped : Stopped) (bytes : ℕ) (left held : Option (List ℕ)) : Type 0 where
  pub grew : x.machine.halted ≡ None → (s : State) → IsIn first s x.machine left held
      → GrewBy stopped.halt s.output (output_of (run x.machine.cpu.memory.text (segments x.machine.cpu.memory) stopped.executed s)) bytes
  pub none : (halt : Halt) → x.machine.halted ≡ Some halt → bytes ≡ 0

output_is : (o : Outcome) → output_of o ≡ (state_in o).output
output_is (Running s) = refl
output_is (Exited code s) = refl
output_is (Trapped trap s) = refl

-- a count and more bytes are the count of all
counted_both : (a b before now : ℕ) → before ≡ counted a → now ≡ counted (a + b) → counted (before + b) ≡ now
counted_both a b before now was is = grind (arith, was, is)

has_put : (halt : Halt) (printed bytes : ℕ) (before : List ℕ) (o : Outcome) → printed ≡ counted (length before) → GrewBy halt before (output_of o) bytes
    → HasPut halt (counted (printed + bytes)) (state_in o).output
has_put (halts.Exit code) printed bytes before o was grew =
    counted_both (length before) bytes printed (counted (length (state_in o).output)) was (ap (λ (bs : List ℕ). counted (length bs)) (sym (output_is o)) ∙ grew)
has_put (halts.Trap trap) printed bytes before o was grew =
    counted_both (length before) bytes printed (counted (length (state_in o).output)) was (ap (λ (bs : List ℕ). counted (length bs)) (sym (output_is o)) ∙ grew)
has_put halts.StepLimit printed bytes before o was grew =
    counted_both (length before) bytes printed (counted (length (state_in o).output)) was (ap (λ (bs : List ℕ). counted (length bs)) (sym (output_is o)) ∙ grew)
has_put halts.ReadFault printed bytes before o was grew = tt
has_put halts.WriteFault printed bytes before o was grew = tt

counted_none : (a printed bytes : ℕ) → printed ≡ counted a → bytes ≡ 0 → printed ≡ counted (printed + bytes)
counted_none a printed bytes was none = grind (arith, was, none)

-- it went on, or had ended
pub went_on : (d : Debuggee) (p : Progress) (breaks : ℕ → Bool) (most : ℕ) (first : Option (List ℕ)) (x : Debugger)
    (stopped : Stopped) (bytes : ℕ) (m : MachineParts) (left held left' held' : Option (List ℕ))
    → Stands d p first x left held → Answers breaks (span d p most) first x stopped m left held left' held' → Counts first x stopped bytes left held
    → WentOn d p (go_on d breaks most p) first stopped.halt (after_run x m stopped.executed (counted (x.printed + bytes))) left' held'
went_on d p breaks most first x stopped bytes m left held left' held' st a counts = by x.machine.halted refl
  where
    by : (o : Option Halt) → x.machine.halted ≡ o
        → WentOn d p (go_on d breaks most p) first stopped.halt (after_run x m stopped.executed (counted (x.printed + bytes))) left' held'
    by None h =
        let r = runs_from d p breaks (span d p most) first x stopped m left held left' held' st a h in
        let at : IsIn first r.state x.machine left held = subst (λ (q : Outcome). IsIn first (state_in q) x.machine left held) r.is st.state in
        let grew : GrewBy stopped.halt r.state.output (output_of (run d.text d.segments stopped.executed r.state)) bytes =
        subst (λ (b : Segments). GrewBy stopped.halt r.state.output (output_of (run d.text b stopped.executed r.state)) bytes) st.segments
        (subst (λ (text : List ℕ). GrewBy stopped.halt r.state.output (output_of (run text (segments x.machine.cpu.memory) stopped.executed r.state)) bytes) st.text (counts.grew h r.state at)) in
        let was : x.printed ≡ counted (length r.state.output) = st.printed ∙ ap (λ (q : Outcome). counted (length (state_in q).output)) r.is in
        went_running d p breaks most first x stopped.halt m stopped.executed (counted (x.printed + bytes)) left held left' held' r.state st a.keeps r.is r.runs.ran r.runs.executed (a.halted h)
        (has_put stopped.halt x.printed bytes r.state.output (run d.text d.segments stopped.executed r.state) was grew)
    by (Some halt) h =
        let ended = went_ended d p breaks most first x halt left held (outcome d p.executed) st refl h in
        let same : x.printed ≡ counted (x.printed + bytes) = counted_none (length (state_in (outcome d p.executed)).output) x.printed bytes st.printed (counts.none halt h) in
        subst (λ (q : Stopped). WentOn d p (go_on d breaks most p) first q.halt (after_run x m q.executed (counted (x.printed + bytes))) left' held') (sym (a.again halt h))
        (subst (λ (q : MachineParts). WentOn d p (go_on d breaks most p) first halt (after_run x q 0 (counted (x.printed + bytes))) left' held') (sym (a.machine halt h))
        (subst (λ (n : ℕ). WentOn d p (go_on d breaks most p) first halt (after_run x x.machine 0 n) left' held') same
        (subst (λ (l : Option (List ℕ)). WentOn d p (go_on d breaks most p) first halt (after_run x x.machine 0 x.printed) l held') (sym (a.left_same halt h))
        (subst (λ (k : Option (List ℕ)). WentOn d p (go_on d breaks most p) first halt (after_run x x.machine 0 x.printed) left k) (sym (a.held_same halt h)) ended))))

-- it stands at its end, and where a call failed, that was among the instructions from here to the end
ends_from : (d : Debuggee) (p : Progress) (n : ℕ) (first : Option (List ℕ)) (halt : Halt) (left held : Option (List ℕ))
    → StandsAtEnd d halt first left held → FailsWithin d p n first halt left held → EndsFrom d p n first halt left held
ends_from d p n first (halts.Exit code) left held at within = at
ends_from d p n first (halts.Trap trap) left held at within = at
ends_from d p n first halts.StepLimit left held at within = at
ends_from d p n first halts.ReadFault left held at within = record { ends = at; within = within }
ends_from d p n first halts.WriteFault left held at within = record { ends = at; within = within }

-- the run to its end, from where it goes on
ended_running : (d : Debuggee) (p : Progress) (first : Option (List ℕ)) (x : Debugger) (halt : Halt) (m : MachineParts)
    (left held left' held' : Option (List ℕ)) (s : State)
    → Stands d p first x left held → outcome d p.executed ≡ Running s
    → Ran d.text d.segments (moved no_break d.text d.segments (d.budget - p.executed) s) s first halt m left' held'
    → EndsFrom d p (d.budget - p.executed) first halt left' held'
ended_running d p first x halt m left held left' held' s st is ran =
    let n : ℕ = d.budget - p.executed in
    let all : p.executed + n ≡ d.budget = omega (arith, st.executed, st.budget, st.within) in
    let longer : Ran d.text d.segments n s first halt m left' held' = ran_without_breaks d.text d.segments n s first halt m left' held' ran in
    ends_from d p n first halt left' held'
    (record {
      machine = m;
      ran = subst (λ (k : ℕ). Ran d.text d.segments k d.start first halt m left' held') all (ran_on_from d.text d.segments p.executed n d.start s first halt m left' held' is longer);
    })
    (record { state = s; goes_on = is; machine = m; ran = longer })

-- and where it had ended
ended_so : (d : Debuggee) (p : Progress) (first : Option (List ℕ)) (x : Debugger) (halt : Halt) (left held : Option (List ℕ))
    → halt ≢ halts.StepLimit → Stands d p first x left held
    → Ran d.text d.segments p.executed d.start first halt x.machine left held → StandsAtEnd d halt first left held
ended_so d p first x halt left held other st ran =
    let all : p.executed + (d.budget - p.executed) ≡ d.budget = omega (arith, st.executed, st.budget, st.within) in
    record {
      machine = x.machine;
      ran = subst (λ (k : ℕ). Ran d.text d.segments k d.start first halt x.machine left held) all (ran_ended d.text d.segments p.executed (d.budget - p.executed) d.start first x.machine halt left held other ran);
    }

ended_before : (d : Debuggee) (p : Progress) (first : Option (List ℕ)) (x : Debugger) (halt : Halt) (left held : Option (List ℕ))
    (o : Outcome)
    → Stands d p first x left held → outcome d p.executed ≡ o → x.machine.halted ≡ Some halt
    → EndsFrom d p (d.budget - p.executed) first halt left held
ended_before d p first x halt left held (Running s) st is halted =
    let none : x.machine.halted ≡ None = st.halted ∙ ap (λ (r : Outcome). halted_in r) is in
    absurd cc
ended_before d p first x halt left held (Exited code s) st is halted =
    let was : x.machine.halted ≡ Some (halts.Exit code) = st.halted ∙ ap (λ (r : Outcome). halted_in r) is in
    let same : halts.Exit code ≡ halt = cc in
    subst (λ (h : Halt). EndsFrom d p (d.budget - p.executed) first h left held) same
    (ended_so d p first x (halts.Exit code) left held (λ e. absurd cc) st (s, is, subst (λ (r : Outcome). IsIn first (state_in r) x.machine left held) is st.state))
ended_before d p first x halt left held (Trapped trap s) st is halted =
    let was : x.machine.halted ≡ Some (halts.Trap trap) = st.halted ∙ ap (λ (r : Outcome). halted_in r) is in
    let same : halts.Trap trap ≡ halt = cc in
    subst (λ (h : Halt). EndsFrom d p (d.budget - p.executed) first h left held) same
    (ended_so d p first x (halts.Trap trap) left held (λ e. absurd cc) st (s, is, subst (λ (r : Outcome). IsIn first (state_in r) x.machine left held) is st.state))

pub ended : (d : Debuggee) (p : Progress) (first : Option (List ℕ)) (x : Debugger) (stopped : Stopped) (m : MachineParts)
    (left held left' held' : Option (List ℕ))
    → Stands d p first x left held → Answers no_break (d.budget - p.executed) first x stopped m left held left' held'
    → EndsFrom d p (d.budget - p.executed) first stopped.halt left' held'
ended d p first x stopped m left held left' held' st a = by x.machine.halted refl
  where
    by : (o : Option Halt) → x.machine.halted ≡ o → EndsFrom d p (d.budget - p.executed) first stopped.halt left' held'
    by None h =
        let r = runs_from d p no_break (d.budget - p.executed) first x stopped m left held left' held' st a h in
        ended_running d p first x stopped.halt m left held left' held' r.state st r.is r.runs.ran
    by (Some halt) h =
        let before = ended_before d p first x halt left held (outcome d p.executed) st refl h in
        subst (λ (q : Stopped). EndsFrom d p (d.budget - p.executed) first q.halt left' held') (sym (a.again halt h))
        (subst (λ (l : Option (List ℕ)). EndsFrom d p (d.budget - p.executed) first halt l held') (sym (a.left_same halt h))
        (subst (λ (k : Option (List ℕ)). EndsFrom d p (d.budget - p.executed) first halt left k) (sym (a.held_same halt h)) before))

-- the number of instructions that a debugger may execute, by its own numbers
pub room_is : (d : Debuggee) (p : Progress) (first : Option (List ℕ)) (x : Debugger) (left held : Option (List ℕ))
    → Stands d p first x left held → x.budget - x.executed ≡ d.budget - p.executed
room_is d p first x left held st = omega (arith, st.budget, st.executed)

pub whole_span : (d : Debuggee) (p : Progress) → d.budget - p.executed ≡ span d p d.budget
whole_span d p = grind arith

-- a debugger's break addresses are those of its script
pub breaks_are : (d : Debuggee) (p : Progress) (first : Option (List ℕ)) (x : Debugger) (left held : Option (List ℕ))
    → Stands d p first x left held → in_set x.breaks ≡ is_break p.breaks
breaks_are d p first x left held st = fun_ext st.breaks
