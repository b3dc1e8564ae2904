-- Runs of the machine to a goal (`Reaches`) can be extended by one instruction, composed one after the other, and may end by the limits of heap and stack.
use Rattle.std.proofs.Common.{◌≡◌, ℕ, suc, ◌+◌, ◌-◌, ◌<◌, ◌≤◌, ◌⊎◌, inl, inr, refl, sym, ap, ◌∙◌, subst, arith}
use Rattle.mips_isa.specs.Calls.{State, Outcome, Running, Exited, Trapped}
use Rattle.mips_isa.specs.Run.{run, cycle, and_then}
use Rattle.mips_isa.proofs.RunsInParts.{run_sum}
use Rattle.cool_runtime.specs.Reaches.{World, Ends, Goal, Reaches, stands, exits, Limited, OnTheWay}

module _ (w : World) where
  -- an end, after another number of instructions
  moved : (lo lo' m m' : ℕ) (goal : Goal) (o : Outcome) → (lo ≤ m → lo' ≤ m') → Ends w lo goal m o → Ends w lo' goal m' o
  moved lo lo' m m' goal (Running s) le e = (le e.0, e.1)
  moved lo lo' m m' goal (Exited code s) le e = e
  moved lo lo' m m' goal (Trapped trap s) le e = e

  -- fewer at least, more at most
  pub wider : (s : State) (lo lo' hi hi' : ℕ) (goal : Goal) → lo' ≤ lo → hi ≤ hi' → Reaches w s lo hi goal → Reaches w s lo' hi' goal
  wider s lo lo' hi hi' goal a c r = record {
    count = r.count;
    within = omega (arith, r.within);
    ends = moved lo lo' r.count r.count goal (run w.text w.segments r.count s) (λ h. omega arith) r.ends;
  }

  ends_as : (lo m : ℕ) (goal goal' : Goal) (o : Outcome) → ((o : Outcome) → goal o → goal' o) → Ends w lo goal m o → Ends w lo goal' m o
  ends_as lo m goal goal' (Running s) as' e = (e.0, as' (Running s) e.1)
  ends_as lo m goal goal' (Exited code s) as' (inl e) = inl (as' (Exited code s) e)
  ends_as lo m goal goal' (Exited code s) as' (inr e) = inr e
  ends_as lo m goal goal' (Trapped trap s) as' e = e

  -- a weaker goal is reached, too
  pub weaker : (s : State) (lo hi : ℕ) (goal goal' : Goal) → ((o : Outcome) → goal o → goal' o) → Reaches w s lo hi goal → Reaches w s lo hi goal'
  weaker s lo hi goal goal' as' r = record { count = r.count; within = r.within; ends = ends_as lo r.count goal goal' (run w.text w.segments r.count s) as' r.ends }

  exit_as : (n : ℕ) (P Q : State → Type 0) → ((t : State) → P t → Q t) → (o : Outcome) → exits n P o → exits n Q o
  exit_as n P Q as' (Running s) h = h
  exit_as n P Q as' (Exited code s) h = (h.0, as' s h.1)
  exit_as n P Q as' (Trapped trap s) h = h

  pub exits_as : (s : State) (lo hi n : ℕ) (P Q : State → Type 0) → ((t : State) → P t → Q t) → Reaches w s lo hi (exits n P) → Reaches w s lo hi (exits n Q)
  exits_as s lo hi n P Q as' r = weaker s lo hi (exits n P) (exits n Q) (exit_as n P Q as') r

  -- no instruction at all
  pub here : (s : State) (goal : Goal) → goal (Running s) → Reaches w s 0 0 goal
  here s goal q = record { count = 0; within = omega arith; ends = (omega arith, q) }

  -- one instruction, and its system call
  pub one : (s t : State) (lo hi : ℕ) (goal : Goal) → cycle w.text w.segments s ≡ Running t → Reaches w t lo hi goal → Reaches w s (suc lo) (suc hi) goal
  one s t lo hi goal e r = record {
    count = suc r.count;
    within = omega (arith, r.within);
    ends =
        subst (λ o. Ends w (suc lo) goal (suc r.count) (and_then o (run w.text w.segments r.count))) (sym e)
        (moved lo (suc lo) r.count (suc r.count) goal (run w.text w.segments r.count t) (λ h. omega arith) r.ends);
  }

  -- an instruction at which the run ends
  pub ended : (s t : State) (code : ℕ) (lo : ℕ) (goal : Goal) → cycle w.text w.segments s ≡ Exited code t → Ends w lo goal 1 (Exited code t) → Reaches w s lo 1 goal
  ended s t code lo goal e h = record {
    count = 1;
    within = omega arith;
    ends = subst (λ o. Ends w lo goal 1 (and_then o (run w.text w.segments 0))) (sym e) h;
  }

  then_from : (s : State) (k lo hi lo' hi' : ℕ) (P : State → Type 0) (goal : Goal) (o : Outcome) → k ≤ hi → run w.text w.segments k s ≡ o → Ends w lo (stands P) k o
      → ((t : State) → P t → Reaches w t lo' hi' goal) → Reaches w s (lo + lo') (hi + hi') goal
  then_from s k lo hi lo' hi' P goal (Running t) within e h next =
      let r = next t h.1 in
      let on : run w.text w.segments (k + r.count) s ≡ run w.text w.segments r.count t =
      run_sum w.text w.segments k r.count s ∙ ap (λ o. and_then o (run w.text w.segments r.count)) e in
      record {
        count = k + r.count;
        within = omega (arith, r.within);
        ends =
            subst (Ends w (lo + lo') goal (k + r.count)) (sym on)
            (moved lo' (lo + lo') r.count (k + r.count) goal (run w.text w.segments r.count t) (λ le. omega (arith, h.0)) r.ends);
      }
  then_from s k lo hi lo' hi' P goal (Exited code t) within e (inl h) next = absurd h
  then_from s k lo hi lo' hi' P goal (Exited code t) within e (inr h) next =
      record { count = k; within = omega arith; ends = subst (Ends w (lo + lo') goal k) (sym e) (inr h) }
  then_from s k lo hi lo' hi' P goal (Trapped trap t) within e h next = absurd h

  -- one stretch after another
  pub then : (s : State) (lo hi lo' hi' : ℕ) (P : State → Type 0) (goal : Goal) → Reaches w s lo hi (stands P)
      → ((t : State) → P t → Reaches w t lo' hi' goal) → Reaches w s (lo + lo') (hi + hi') goal
  then s lo hi lo' hi' P goal r next =
      then_from s r.count lo hi lo' hi' P goal (run w.text w.segments r.count s) r.within refl r.ends next

  -- if the limits are the machine's own, no exit by a limit comes

  state_of : (lo k : ℕ) (P : State → Type 0) (s : State) (o : Outcome) → w.top ≤ w.segments.heap_end → w.segments.stack_low ≤ w.low → run w.text w.segments k s ≡ o → Ends w lo (stands P) k o
      → (t : State) × (lo ≤ k) × (run w.text w.segments k s ≡ Running t) × P t
  state_of lo k P s (Running t) top low is h = (t, h.0, is, h.1)
  state_of lo k P s (Exited code t) top low is (inl h) = absurd h
  state_of lo k P s (Exited code t) top low is (inr h) = absurd (grind (arith, h.why))
  state_of lo k P s (Trapped trap t) top low is h = absurd h

  pub comes_to : (s : State) (lo hi : ℕ) (P : State → Type 0) → w.top ≤ w.segments.heap_end → w.segments.stack_low ≤ w.low → Reaches w s lo hi (stands P)
      → (k : ℕ) × (k ≤ hi) × ((t : State) × (lo ≤ k) × (run w.text w.segments k s ≡ Running t) × P t)
  comes_to s lo hi P top low r = (r.count, r.within, state_of lo r.count P s (run w.text w.segments r.count s) top low refl r.ends)

  exit_of : (lo k n : ℕ) (P : State → Type 0) (s : State) (o : Outcome) → w.top ≤ w.segments.heap_end → w.segments.stack_low ≤ w.low → run w.text w.segments k s ≡ o → Ends w lo (exits n P) k o
      → (t : State) × (run w.text w.segments k s ≡ Exited n t) × P t
  exit_of lo k n P s (Running t) top low is h = absurd h.1
  exit_of lo k n P s (Exited code t) top low is (inl h) = (t, is ∙ ap (λ c. Exited c t) h.0, h.1)
  exit_of lo k n P s (Exited code t) top low is (inr h) = absurd (grind (arith, h.why))
  exit_of lo k n P s (Trapped trap t) top low is h = absurd h

  pub comes_to_exit : (s : State) (lo hi n : ℕ) (P : State → Type 0) → w.top ≤ w.segments.heap_end → w.segments.stack_low ≤ w.low → Reaches w s lo hi (exits n P)
      → (k : ℕ) × (k ≤ hi) × ((t : State) × (run w.text w.segments k s ≡ Exited n t) × P t)
  comes_to_exit s lo hi n P top low r = (r.count, r.within, exit_of lo r.count n P s (run w.text w.segments r.count s) top low refl r.ends)

  -- if the state cannot come about and the stack holds, the exit by the heap's limit comes

  limit_of : (lo k : ℕ) (P : State → Type 0) (s : State) (o : Outcome) → w.segments.stack_low ≤ w.low → ((t : State) → P t → ⊥) → run w.text w.segments k s ≡ o → Ends w lo (stands P) k o
      → (t : State) × (run w.text w.segments k s ≡ Exited 4 t) × OnTheWay w t.output t.input
  limit_of lo k P s (Running t) low never is h = absurd (never t h.1)
  limit_of lo k P s (Exited code t) low never is (inl h) = absurd h
  limit_of lo k P s (Exited code t) low never is (inr h) = (t, is ∙ ap (λ c. Exited c t) (grind (arith, h.why)), h.console)
  limit_of lo k P s (Trapped trap t) low never is h = absurd h

  pub comes_to_heap_limit : (s : State) (lo hi : ℕ) (P : State → Type 0) → w.segments.stack_low ≤ w.low → ((t : State) → P t → ⊥) → Reaches w s lo hi (stands P)
      → (k : ℕ) × (k ≤ hi) × ((t : State) × (run w.text w.segments k s ≡ Exited 4 t) × OnTheWay w t.output t.input)
  comes_to_heap_limit s lo hi P low never r = (r.count, r.within, limit_of lo r.count P s (run w.text w.segments r.count s) low never refl r.ends)

  -- an end stays
  pub end_stays : (k j : ℕ) (s t : State) (code : ℕ) → run w.text w.segments k s ≡ Exited code t → run w.text w.segments (k + j) s ≡ Exited code t
  end_stays k j s t code e = run_sum w.text w.segments k j s ∙ ap (λ o. and_then o (run w.text w.segments j)) e

  end_later : (k n : ℕ) (s t : State) (code : ℕ) → k ≤ n → run w.text w.segments k s ≡ Exited code t → run w.text w.segments n s ≡ Exited code t
  end_later k n s t code le e = let split : n ≡ k + (n - k) = omega arith in ap (λ i. run w.text w.segments i s) split ∙ end_stays k (n - k) s t code e

  same_end : (c d : ℕ) (s t : State) → Exited c s ≡ Exited d t → Limited w c s → Limited w d t
  same_end c d s t e h = let codes : c ≡ d = cc in let states : s ≡ t = cc in subst (λ x. Limited w d x) states (subst (λ x. Limited w x s) codes h)

  limited_by : (lo k code m : ℕ) (P : State → Type 0) (s t : State) (o : Outcome) → k < lo → run w.text w.segments k s ≡ Exited code t → run w.text w.segments m s ≡ o → Ends w lo (stands P) m o → Limited w code t
  limited_by lo k code m P s t (Running u) less e is h =
      let wrong : Running u ≡ Exited code t = sym is ∙ end_later k m s t code (omega (arith, h.0)) e in absurd cc
  limited_by lo k code m P s t (Exited c u) less e is (inl h) = absurd h
  limited_by lo k code m P s t (Exited c u) less e is (inr h) = by order
    where
      order : (k ≤ m) ⊎ (m ≤ k)
      order = grind arith

      by : (k ≤ m) ⊎ (m ≤ k) → Limited w code t
      by (inl le) = same_end c code u t (sym is ∙ end_later k m s t code le e) h
      by (inr le) = same_end c code u t (sym (end_later m k s u c le is) ∙ e) h
  limited_by lo k code m P s t (Trapped trap u) less e is h = absurd h

  -- an exit before the least number of instructions is one by a limit, with the console on the way
  pub why_ended : (s t : State) (lo hi k code : ℕ) (P : State → Type 0) → k < lo → run w.text w.segments k s ≡ Exited code t → Reaches w s lo hi (stands P) → Limited w code t
  why_ended s t lo hi k code P less e r = limited_by lo k code r.count P s t (run w.text w.segments r.count s) less e refl r.ends
