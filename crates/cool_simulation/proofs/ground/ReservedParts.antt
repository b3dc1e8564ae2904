-- Runs compose if a part takes fewer instructions than its cost in the semantics allows, or exceeds this cost by a bounded number.
use Rattle.std.proofs.Common.{◌≡◌, ℕ, ◌+◌, ◌-◌, ◌*◌, ◌≤◌, refl, arith}
use Rattle.mips_isa.specs.Calls.{State as Machine}
use Rattle.cool_runtime.specs.Reaches.{Reaches, stands, OnTheWay}
use Rattle.cool_runtime.proofs.Runs.{wider}
use Rattle.cool_meaning.specs.Values.{State}
use Rattle.cool_meaning.specs.Meters.{Outcome, Val, Stop, On, Stuck, Computation, seq_of}
use Rattle.cool_meaning.proofs.Later.{After}
use Rattle.cool_simulation.specs.Loadings.{Loading}
use Rattle.cool_simulation.specs.Simulation.{Runs, Way}
use Rattle.cool_simulation.proofs.ground.PartsOfRuns.{unless_stuck, way_of, run_past}
use Rattle.cool_simulation.proofs.ground.Passages.{passes, passes_then, passes_wider}

module _ (l : Loading) where
  -- a run, and a stretch behind its value
  pub run_then : {A : Type 0} (s : Machine) (n a b most : ℕ) (K1 K2 : A → State → Machine → Type 0) (o : Outcome A) → a + b ≤ most → Runs l s n a K1 o
      → ((v : A) (t : State) (m : Machine) → K1 v t m → Reaches l.world m 0 b (stands (K2 v t))) → Runs l s n most K2 o
  run_then s n a b most K1 K2 (Val v t left) le h more =
      passes_wider l s (n - left + 0) (n - left) (a + b) most _ (omega arith) le (passes_then l s (n - left) a 0 b _ _ h (λ m k. passes l m 0 b (stands (K2 v t)) (more v t m k)))
  run_then s n a b most K1 K2 (Stop e t) le h more = passes_wider l s 0 0 a most _ (omega arith) (omega arith) h
  run_then s n a b most K1 K2 (On t) le h more = passes_wider l s n n a most _ (omega arith) (omega arith) h
  run_then s n a b most K1 K2 Stuck le h more = tt

  -- no step was spent
  pub none_spent : (s : Machine) (n most : ℕ) (P : Machine → Type 0) → Reaches l.world s 0 most (stands P) → Reaches l.world s (n - n) most (stands P)
  none_spent s n most P h = wider l.world s 0 (n - n) most most _ (omega arith) (omega arith) h

  -- unless no rule applied, when nothing is to be shown
  pub with_way : {A : Type 0} (s : State) (m : Machine) (n most : ℕ) (K : A → State → Machine → Type 0) (o : Outcome A) → After s o → Way l o → (OnTheWay l.world s.output s.input → Runs l m n most K o) → Runs l m n most K o
  with_way s m n most K o later way more = unless_stuck l o m n most K (λ some. more (way_of l s o later some way))

  -- A part within its meters, and the rest within the rest. The part may take fewer instructions than its work allows, or a few more,
  -- with which the rest makes do.
  pub bind_reserved : {A B : Type 0} (o : Outcome A) (wk ws pk : ℕ) (F : A → Computation B) (s : Machine) (n first extra total gp base sp : ℕ) (K1 : A → State → Machine → Type 0) (K2 : B → State → Machine → Type 0)
      → first ≤ 64 * wk + total → ((v : A) (t : State) (left : ℕ) → o ≡ Val v t left → first + extra ≤ 64 * wk + total) → ((v : A) (t : State) (left : ℕ) → After t (F v t left).outcome)
      → gp + 4 * (seq_of o wk ws pk F).words ≤ l.world.top → l.world.low ≤ sp - (base + 16 * (seq_of o wk ws pk F).peak) → Way l (seq_of o wk ws pk F).outcome
      → (gp + 4 * ws ≤ l.world.top → l.world.low ≤ sp - (base + 16 * pk) → Way l o → Runs l s n first K1 o)
      → ((v : A) (t : State) (left : ℕ) (m : Machine) → o ≡ Val v t left → K1 v t m → gp + 4 * (ws + (F v t left).words) ≤ l.world.top → l.world.low ≤ sp - (base + 16 * (F v t left).peak) → Way l (F v t left).outcome
      → Runs l m left (64 * (F v t left).work + extra) K2 (F v t left).outcome)
      → Runs l s n (64 * (seq_of o wk ws pk F).work + total) K2 (seq_of o wk ws pk F).outcome
  bind_reserved (Val v t left) wk ws pk F s n first extra total gp base sp K1 K2 low fits grows heap stack way part rest =
      let enough = fits v t left refl in
      with_way t s n _ K2 (F v t left).outcome (grows v t left) way (λ on.
      run_past l (F v t left).outcome s n left first (64 * (F v t left).work + extra) (64 * (wk + (F v t left).work) + total) (K1 v t) K2 (omega arith)
      (part (omega arith) (omega arith) on) (λ m k. rest v t left m refl k heap (omega arith) way))
  bind_reserved (Stop e t) wk ws pk F s n first extra total gp base sp K1 K2 low fits grows heap stack way part rest =
      passes_wider l s 0 0 first (64 * wk + total) _ (omega arith) (omega arith) (part heap stack way)
  bind_reserved (On t) wk ws pk F s n first extra total gp base sp K1 K2 low fits grows heap stack way part rest =
      passes_wider l s n n first (64 * wk + total) _ (omega arith) (omega arith) (part heap stack way)
  bind_reserved Stuck wk ws pk F s n first extra total gp base sp K1 K2 low fits grows heap stack way part rest = tt
