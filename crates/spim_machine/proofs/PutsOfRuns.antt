-- The list of writes (puts) of a run is that of its first instructions, followed by that of the remaining run.
use Rattle.std.proofs.Common.{◌≡◌, ◌∙◌, refl, sym, ap, subst, ℕ, zero, suc, ◌+◌, ◌-◌, ◌<◌, ◌≤◌, Bool, List, [], ◌++◌, append_assoc, append-nil, Option, arith}
use Rattle.std.specs.Prelude.{Result, Ok, Err}
use Rattle.cool_ports.specs.SinkPuts.{PutFront}
use Rattle.mips_isa.specs.declared.trap.Trap.{Trap}
use Rattle.mips_isa.specs.Bytes.{Segments}
use Rattle.mips_isa.specs.Machine.{Core, Next}
use Rattle.mips_isa.specs.Calls.{State, Outcome, Running, Exited, Trapped}
use Rattle.mips_isa.specs.Run.{cycle, and_then, run}
use Rattle.spim_memory.specs.Memory.{MemoryParts, segments}
use Rattle.spim_cpu.specs.Cpu.{CpuParts, core_of, Stepped, KeepsSegments}
use Rattle.spim_cpu.specs.Advancing.{Goes}
use Rattle.spim_cpu.specs.declared.step.Step.TheVariants as answer
use Rattle.spim_machine.specs.declared.halt.Halt.{Halt}
use Rattle.spim_machine.specs.declared.halt.Halt.TheVariants as halts
use Rattle.spim_machine.specs.MachineStates.{MachineParts, IsIn}
use Rattle.spim_machine.specs.Ends.{Cycled}
use Rattle.spim_machine.specs.Counting.{counted, before_break, moved, RanTo}
use Rattle.spim_machine.specs.Puts.{call_puts, next_puts, cycle_puts, puts_then, run_puts, PutBy, PutIf, PutWithin}
use Rattle.spim_machine.proofs.AdvancesAreRuns.{goes_runs, goes_as}
use Rattle.spim_machine.proofs.Cycles.{next_is, call_is, trap_is}
use Rattle.spim_machine.proofs.RunsByCycles.{cycled_as}
use Rattle.spim_machine.proofs.RunsUpToBreaks.{Stands}
use Rattle.spim_machine.proofs.RunsWithoutBreaks.{nowhere}

-- an instruction that is no system call, and one that traps, put nothing
pub nothing_put : (b : Segments) (n : Next) (puts : List (List ℕ)) → next_puts b n ≡ [] → puts ≡ puts ++ next_puts b n
nothing_put b n puts none = sym (append-nil puts) ∙ ap (λ due. puts ++ due) (sym none)

pub next_put : (b : Segments) (n : Next) (old new : CpuParts) (puts : List (List ℕ)) → Stepped n answer.Next old new → puts ≡ puts ++ next_puts b n
next_put b n old new puts is = nothing_put b n puts (ap (next_puts b) (next_is n old new is))

pub trap_put : (b : Segments) (n : Next) (trap : Trap) (old new : CpuParts) (puts : List (List ℕ)) → Stepped n (answer.Trap trap) old new → puts ≡ puts ++ next_puts b n
trap_put b n trap old new puts is = nothing_put b n puts (ap (next_puts b) (trap_is n trap old new is).0)

-- a system call put what the call puts
pub call_put : (b at_call : Segments) (n : Next) (old new : CpuParts) (result : Result Unit Halt) (before after : List (List ℕ)) → at_call ≡ b
    → Stepped n answer.Call old new → PutIf result (call_puts at_call (core_of new)) before after → PutIf result (next_puts b n) before after
call_put b at_call n old new result before after same is put =
    let due : call_puts at_call (core_of new) ≡ next_puts b n = ap (λ (s : Segments). call_puts s (core_of new)) same ∙ ap (next_puts b) (sym (call_is n old new is)) in
    subst (λ (texts : List (List ℕ)). PutIf result texts before after) due put

-- after an outcome nothing is put by no instruction
none_then : (o : Outcome) → puts_then o (λ s. []) ≡ []
none_then (Running s) = refl
none_then (Exited code s) = refl
none_then (Trapped trap s) = refl

-- the puts of one instruction
one_puts : (text : List ℕ) (b : Segments) (s : State) → run_puts text b 1 s ≡ cycle_puts text b s.core
one_puts text b s = ap (λ more. cycle_puts text b s.core ++ more) (none_then (cycle text b s)) ∙ append-nil (cycle_puts text b s.core)

-- the puts of no instruction
pub no_puts : (text : List ℕ) (b : Segments) (n : ℕ) (s : State) (puts : List (List ℕ)) → puts ≡ puts ++ run_puts text b (n - n) s
no_puts text b n s puts = let none : n - n ≡ 0 = omega arith in sym (append-nil puts) ∙ ap (λ k. puts ++ run_puts text b k s) (sym none)

-- after an outcome from which a run goes on, and where it does not
both_then : (o : Outcome) (front whole : State → List (List ℕ)) (end : List (List ℕ)) (go : State → Outcome) (t : State)
    → ((u : State) → go u ≡ Running t → whole u ≡ front u ++ end) → and_then o go ≡ Running t → puts_then o whole ≡ puts_then o front ++ end
both_then (Running u) front whole end go t each runs = each u runs
both_then (Exited code u) front whole end go t each runs = absurd cc
both_then (Trapped trap u) front whole end go t each runs = absurd cc

some_then : (o : Outcome) (front whole : State → List (List ℕ)) → ((u : State) → (rest : List (List ℕ)) × (whole u ≡ front u ++ rest))
    → (rest : List (List ℕ)) × (puts_then o whole ≡ puts_then o front ++ rest)
some_then (Running u) front whole each = each u
some_then (Exited code u) front whole each = ([], refl)
some_then (Trapped trap u) front whole each = ([], refl)

-- the puts of a run that goes on, and of the run after it
puts_both : (text : List ℕ) (b : Segments) (n k : ℕ) (s t : State) → run text b n s ≡ Running t
    → run_puts text b (n + k) s ≡ run_puts text b n s ++ run_puts text b k t
puts_both text b zero k s t is = let none : 0 + k ≡ k = omega arith in ap (λ i. run_puts text b i s) none ∙ cc
puts_both text b (suc n) k s t is =
    let sum : suc n + k ≡ suc (n + k) = omega arith in
    ap (λ i. run_puts text b i s) sum
    ∙ ap (λ more. cycle_puts text b s.core ++ more) (both_then (cycle text b s) (run_puts text b n) (run_puts text b (n + k)) (run_puts text b k t) (run text b n) t (λ u runs. puts_both text b n k u t runs) is)
    ∙ sym (append_assoc (cycle_puts text b s.core) (puts_then (cycle text b s) (run_puts text b n)) (run_puts text b k t))

-- instructions without a system call put nothing
goes_puts : (breaks : ℕ → Bool) (text : List ℕ) (b : Segments) (n : ℕ) (t : State) (core : Core) → Goes breaks text b n t.core core → run_puts text b n t ≡ []
goes_puts breaks text b zero t core same = refl
goes_puts breaks text b (suc n) t core (before, goes, free, steps) =
    let one : suc n ≡ n + 1 = omega arith in
    let on : State = record t { core = before } in
    ap (λ k. run_puts text b k t) one ∙ puts_both text b n 1 t on (goes_runs breaks text b n t before goes)
    ∙ ap (λ front. front ++ run_puts text b 1 on) (goes_puts breaks text b n t before goes) ∙ one_puts text b on ∙ ap (next_puts b) steps

-- the puts by the text and the segments at the run's start
puts_as : (old now : MemoryParts) (c : Core) → KeepsSegments old now → cycle_puts now.text (segments now) c ≡ cycle_puts old.text (segments old) c
puts_as old now c kept = ap (λ (text : List ℕ). cycle_puts text (segments now) c) kept.text ∙ ap (λ (b : Segments). cycle_puts old.text b c) kept.segments

-- after one more instruction, and those that the processor executes in one call
pub puts_turned : (breaks : ℕ → Bool) (old now : MemoryParts) (k n left : ℕ) (s : State) (first : Option (List ℕ))
    (from to mid : MachineParts) (cpu : CpuParts) (input held input' held' : Option (List ℕ)) (before middle after : List (List ℕ))
    → KeepsSegments old now → KeepsSegments old mid.cpu.memory → 0 < left → left ≤ n → k ≤ left - 1 → to ≡ mid
    → Stands (moved breaks old.text (segments old)) breaks old.text (segments old) n left s first from input held
    → ((t : State) → IsIn first t from input held → Cycled now.text (segments now) t first (Ok tt) to input' held')
    → Goes breaks mid.cpu.memory.text (segments mid.cpu.memory) k (core_of mid.cpu) (core_of cpu)
    → middle ≡ before ++ run_puts old.text (segments old) (n - left) s → after ≡ middle ++ cycle_puts now.text (segments now) (core_of from.cpu)
    → after ≡ before ++ run_puts old.text (segments old) (n - (left - 1 - k)) s
puts_turned breaks old now k n left s first from to mid cpu input held input' held' before middle after kept kept_mid some within most is_mid h cycled goes so_far put =
    let text = old.text in
    let b : Segments = segments old in
    let t : State = h.state in
    let turn = cycled_as old now t first (Ok tt) to input' held' kept (cycled t h.is) in
    let u : State = turn.0 in
    let at : core_of mid.cpu ≡ u.core = ap (λ (m : MachineParts). core_of m.cpu) (sym is_mid) ∙ turn.2.core in
    let onward = subst (λ (c : Core). Goes breaks text b k c (core_of cpu)) at (goes_as breaks old mid.cpu.memory k (core_of mid.cpu) (core_of cpu) kept_mid goes) in
    let ran : run text b 1 t ≡ Running u = ap (λ (o : Outcome). and_then o (run text b 0)) turn.1 in
    let last : run_puts text b (1 + k) t ≡ cycle_puts now.text (segments now) (core_of from.cpu) =
    puts_both text b 1 k t u ran ∙ ap (λ more. run_puts text b 1 t ++ more) (goes_puts breaks text b k u (core_of cpu) onward)
    ∙ append-nil (run_puts text b 1 t) ∙ one_puts text b t ∙ ap (cycle_puts text b) (sym h.is.core) ∙ sym (puts_as old now (core_of from.cpu) kept) in
    let sum : n - (left - 1 - k) ≡ n - left + (1 + k) = omega (arith, some, within, most) in
    let all : run_puts text b (n - (left - 1 - k)) s ≡ run_puts text b (n - left) s ++ cycle_puts now.text (segments now) (core_of from.cpu) =
    ap (λ i. run_puts text b i s) sum ∙ puts_both text b (n - left) (1 + k) s t h.runs ∙ ap (λ more. run_puts text b (n - left) s ++ more) last in
    put ∙ ap (λ puts. puts ++ cycle_puts now.text (segments now) (core_of from.cpu)) so_far
    ∙ append_assoc before (run_puts text b (n - left) s) (cycle_puts now.text (segments now) (core_of from.cpu)) ∙ ap (λ due. before ++ due) (sym all)

-- the puts before, and then these or a front of them
put_after : (halt : Halt) (before done due after : List (List ℕ)) → PutBy halt due (before ++ done) after → PutBy halt (done ++ due) before after
put_after halts.WriteFault before done due after (rest, p) =
    (rest, record { front = done ++ p.front; cut = ap (λ texts. done ++ texts) p.cut ∙ sym (append_assoc done p.front rest); put = p.put ∙ append_assoc before done p.front })
put_after (halts.Exit code) before done due after put = put ∙ append_assoc before done due
put_after (halts.Trap trap) before done due after put = put ∙ append_assoc before done due
put_after halts.StepLimit before done due after put = put ∙ append_assoc before done due
put_after halts.ReadFault before done due after put = put ∙ append_assoc before done due

-- with the instruction at which the run ends
pub puts_ended : (breaks : ℕ → Bool) (old now : MemoryParts) (n left : ℕ) (s : State) (first : Option (List ℕ)) (halt : Halt)
    (from : MachineParts) (input held : Option (List ℕ)) (before middle after : List (List ℕ)) → KeepsSegments old now → 0 < left → left ≤ n
    → Stands (moved breaks old.text (segments old)) breaks old.text (segments old) n left s first from input held
    → middle ≡ before ++ run_puts old.text (segments old) (n - left) s
    → PutIf (Err halt) (cycle_puts now.text (segments now) (core_of from.cpu)) middle after
    → PutBy halt (run_puts old.text (segments old) (n - (left - 1)) s) before after
puts_ended breaks old now n left s first halt from input held before middle after kept some within h so_far put =
    let text = old.text in
    let b : Segments = segments old in
    let due : List (List ℕ) = cycle_puts now.text (segments now) (core_of from.cpu) in
    let sum : n - (left - 1) ≡ n - left + 1 = omega (arith, some, within) in
    let all : run_puts text b (n - left) s ++ due ≡ run_puts text b (n - (left - 1)) s =
    ap (λ more. run_puts text b (n - left) s ++ more) (puts_as old now (core_of from.cpu) kept ∙ ap (cycle_puts text b) h.is.core ∙ sym (one_puts text b h.state))
    ∙ sym (puts_both text b (n - left) 1 s h.state h.runs) ∙ ap (λ i. run_puts text b i s) (sym sum) in
    subst (λ (texts : List (List ℕ)). PutBy halt texts before after) all
    (put_after halt before (run_puts text b (n - left) s) due after (subst (λ (puts : List (List ℕ)). PutBy halt due puts after) so_far put))

-- a run that stops at no address puts what one of its whole budget does
counted_puts : (text : List ℕ) (b : Segments) (n : ℕ) (s : State) (o : Outcome) (later : State → ℕ)
    → ((t : State) → run_puts text b (later t) t ≡ run_puts text b n t) → cycle text b s ≡ o
    → run_puts text b (counted o later) s ≡ cycle_puts text b s.core ++ puts_then o (run_puts text b n)
counted_puts text b n s (Running t) later same next =
    ap (λ (o : Outcome). cycle_puts text b s.core ++ puts_then o (run_puts text b (later t))) next ∙ ap (λ more. cycle_puts text b s.core ++ more) (same t)
counted_puts text b n s (Exited code t) later same next = ap (λ (o : Outcome). cycle_puts text b s.core ++ puts_then o (run_puts text b 0)) next
counted_puts text b n s (Trapped trap t) later same next = ap (λ (o : Outcome). cycle_puts text b s.core ++ puts_then o (run_puts text b 0)) next

before_puts : (text : List ℕ) (b : Segments) (n : ℕ) (s : State) → run_puts text b (before_break nowhere text b n s) s ≡ run_puts text b n s
before_puts text b zero s = refl
before_puts text b (suc n) s = counted_puts text b n s (cycle text b s) (before_break nowhere text b n) (before_puts text b n) refl

moved_puts : (text : List ℕ) (b : Segments) (n : ℕ) (s : State) → run_puts text b (moved nowhere text b n s) s ≡ run_puts text b n s
moved_puts text b zero s = refl
moved_puts text b (suc n) s = counted_puts text b n s (cycle text b s) (before_break nowhere text b n) (before_puts text b n) refl

-- the puts of a shorter run are a front of those of a longer one
puts_front : (text : List ℕ) (b : Segments) (n k : ℕ) (s : State) → (rest : List (List ℕ)) × (run_puts text b (n + k) s ≡ run_puts text b n s ++ rest)
puts_front text b zero k s = let none : 0 + k ≡ k = omega arith in (run_puts text b k s, ap (λ i. run_puts text b i s) none)
puts_front text b (suc n) k s =
    let sum : suc n + k ≡ suc (n + k) = omega arith in
    let more = some_then (cycle text b s) (run_puts text b n) (run_puts text b (n + k)) (λ u. puts_front text b n k u) in (
      more.0,
      ap (λ i. run_puts text b i s) sum ∙ ap (λ later. cycle_puts text b s.core ++ later) more.1
          ∙ sym (append_assoc (cycle_puts text b s.core) (puts_then (cycle text b s) (run_puts text b n)) more.0),
    )

-- a front of these is a front of a longer list that begins with these
front_of : (due more before after : List (List ℕ)) (rest : List (List ℕ)) → more ≡ due ++ rest → PutFront before due after → PutFront before more after
front_of due more before after rest is (left, p) =
    (left ++ rest, record { front = p.front; cut = is ∙ ap (λ texts. texts ++ rest) p.cut ∙ append_assoc p.front left rest; put = p.put })

whole_front : (due before after : List (List ℕ)) → after ≡ before ++ due → PutFront before due after
whole_front due before after put = ([], record { front = due; cut = sym (append-nil due); put = put })

-- so it is of a run with no address to stop at
pub put_within : (text : List ℕ) (b : Segments) (n executed : ℕ) (s : State) (first : Option (List ℕ)) (halt : Halt) (m : MachineParts) (left held : Option (List ℕ))
    (before after : List (List ℕ)) → executed ≤ n → RanTo nowhere text b n s first (record { halt = halt; executed = executed }) m left held
    → PutBy halt (run_puts text b executed s) before after → PutWithin halt (run_puts text b n s) before after
put_within text b n executed s first (halts.Exit code) m left held before after most ran put = put ∙ ap (λ i. before ++ run_puts text b i s) ran.executed ∙ ap (λ due. before ++ due) (moved_puts text b n s)
put_within text b n executed s first (halts.Trap trap) m left held before after most ran put = put ∙ ap (λ i. before ++ run_puts text b i s) ran.executed ∙ ap (λ due. before ++ due) (moved_puts text b n s)
put_within text b n executed s first halts.StepLimit m left held before after most ran put = put ∙ ap (λ i. before ++ run_puts text b i s) ran.executed ∙ ap (λ due. before ++ due) (moved_puts text b n s)
put_within text b n executed s first halts.ReadFault m left held before after most ran put =
    let all : executed + (n - executed) ≡ n = omega (arith, most) in
    let more = puts_front text b executed (n - executed) s in
    front_of (run_puts text b executed s) (run_puts text b n s) before after more.0 (ap (λ i. run_puts text b i s) (sym all) ∙ more.1) (whole_front (run_puts text b executed s) before after put)
put_within text b n executed s first halts.WriteFault m left held before after most ran put =
    let all : executed + (n - executed) ≡ n = omega (arith, most) in
    let more = puts_front text b executed (n - executed) s in
    front_of (run_puts text b executed s) (run_puts text b n s) before after more.0 (ap (λ i. run_puts text b i s) (sym all) ∙ more.1) put
