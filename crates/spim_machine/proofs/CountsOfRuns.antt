-- Lemmas on the number of instructions that a run executes up to a breakpoint: it is at most the budget, 0 at a breakpoint, and grows by one with each
-- instruction.
use Rattle.std.proofs.Common.{◌≡◌, ◌∙◌, refl, sym, ap, ℕ, zero, suc, ◌+◌, ◌-◌, ◌<◌, ◌≤◌, Bool, true, false, if◌then◌else◌, List, arith}
use Rattle.mips_isa.specs.Bytes.{Segments}
use Rattle.mips_isa.specs.Machine.{Core}
use Rattle.mips_isa.specs.Calls.{State, Outcome, Running, Exited, Trapped}
use Rattle.mips_isa.specs.Run.{after, cycle}
use Rattle.spim_cpu.specs.Advancing.{Goes}
use Rattle.spim_machine.specs.Counting.{counted, before_break, moved}

-- an instruction counts
pub counted_some : (o : Outcome) (later : State → ℕ) → 0 < counted o later
counted_some (Running s) later = omega arith
counted_some (Exited code s) later = omega arith
counted_some (Trapped trap s) later = omega arith

-- but by no more than its budget
counted_within : (o : Outcome) (later : State → ℕ) (n : ℕ) → ((s : State) → later s ≤ n) → counted o later ≤ suc n
counted_within (Running s) later n within = let here : later s ≤ n = within s in omega arith
counted_within (Exited code s) later n within = omega arith
counted_within (Trapped trap s) later n within = omega arith

stopped_within : (stops : Bool) (count n : ℕ) → count ≤ suc n → (if stops then 0 else count) ≤ suc n
stopped_within true count n within = omega arith
stopped_within false count n within = within

before_within : (breaks : ℕ → Bool) (text : List ℕ) (b : Segments) (n : ℕ) (s : State) → before_break breaks text b n s ≤ n
before_within breaks text b zero s = omega arith
before_within breaks text b (suc n) s =
    stopped_within (breaks s.core.pc) (counted (cycle text b s) (before_break breaks text b n)) n (counted_within (cycle text b s) (before_break breaks text b n) n (before_within breaks text b n))

pub moved_within : (breaks : ℕ → Bool) (text : List ℕ) (b : Segments) (n : ℕ) (s : State) → moved breaks text b n s ≤ n
moved_within breaks text b zero s = omega arith
moved_within breaks text b (suc n) s = counted_within (cycle text b s) (before_break breaks text b n) n (before_within breaks text b n)

pub moved_spent : (breaks : ℕ → Bool) (text : List ℕ) (b : Segments) (n : ℕ) (s : State) → n ≡ 0 → moved breaks text b n s ≡ 0
moved_spent breaks text b n s spent = ap (λ i. moved breaks text b i s) spent

pub before_stops : (breaks : ℕ → Bool) (text : List ℕ) (b : Segments) (n : ℕ) (s : State) → breaks s.core.pc ≡ true
    → before_break breaks text b n s ≡ 0
before_stops breaks text b zero s stops = refl
before_stops breaks text b (suc n) s stops = ap (λ (is : Bool). if is then 0 else counted (cycle text b s) (before_break breaks text b n)) stops

-- if pc is no break address, the first instruction is no exception
pub before_goes : (breaks : ℕ → Bool) (text : List ℕ) (b : Segments) (n : ℕ) (s : State) → breaks s.core.pc ≡ false
    → before_break breaks text b n s ≡ moved breaks text b n s
before_goes breaks text b zero s goes = refl
before_goes breaks text b (suc n) s goes = ap (λ (is : Bool). if is then 0 else counted (cycle text b s) (before_break breaks text b n)) goes

-- an instruction that goes on, and those after it
pub moved_next : (breaks : ℕ → Bool) (text : List ℕ) (b : Segments) (n : ℕ) (s t : State) → cycle text b s ≡ Running t
    → moved breaks text b (suc n) s ≡ suc (before_break breaks text b n t)
moved_next breaks text b n s t next = ap (λ (o : Outcome). counted o (before_break breaks text b n)) next

-- so many of them, none of which is a system call or stands at a break address
pub before_advanced : (breaks : ℕ → Bool) (text : List ℕ) (b : Segments) (k n : ℕ) (t : State) (core : Core) → k ≤ n
    → Goes breaks text b k t.core core
    → before_break breaks text b n t ≡ k + before_break breaks text b (n - k) (record t { core = core })
before_advanced breaks text b zero n t core within same =
    let all : n ≡ n - 0 = omega arith in
    let here : before_break breaks text b n t ≡ before_break breaks text b (n - 0) (record t { core = core }) =
    ap (λ (c : Core). before_break breaks text b n (record t { core = c })) (sym same) ∙ ap (λ i. before_break breaks text b i (record t { core = core })) all in
    omega (arith, here)
before_advanced breaks text b (suc k) n t core within (before, goes, free, steps) =
    let at : State = record t { core = before } in
    let last : State = record t { core = core } in
    let some : n - k ≡ suc (n - suc k) = omega (arith, within) in
    let here : before_break breaks text b n t ≡ k + before_break breaks text b (n - k) at = before_advanced breaks text b k n t before (omega (arith, within)) goes in
    let next : before_break breaks text b (n - k) at ≡ suc (before_break breaks text b (n - suc k) last) =
    ap (λ i. before_break breaks text b i at) some ∙ before_goes breaks text b (suc (n - suc k)) at free ∙ moved_next breaks text b (n - suc k) at last (ap (after b at) steps) in
    omega (arith, here, next)
