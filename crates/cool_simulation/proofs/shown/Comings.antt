-- Lemmas that compose runs of the machine until it reaches a later state, and that bound the heap and stack on the way.
use Rattle.std.proofs.Common.{◌≡◌, ℕ, ◌+◌, ◌-◌, ◌*◌, ◌≤◌, ◌⊎◌, inl, inr, refl, sym, ◌∙◌, subst, arith, None}
use Rattle.mips_isa.specs.Calls.{State as Machine, Outcome as MachineOutcome, Running, Exited, Trapped}
use Rattle.mips_isa.specs.Run.{run}
use Rattle.cool_runtime.specs.Reaches.{World, Ends, Reaches, stands}
use Rattle.cool_runtime.specs.Machines.{Pointers}
use Rattle.cool_runtime.proofs.Runs.{here, then}
use Rattle.cool_meaning.specs.Values.{State}
use Rattle.cool_meaning.specs.Meters.{Outcome, Val, Stop, On, Stuck, Metered, Computation, seq_of, seq}
use Rattle.cool_meaning.proofs.Later.{After}
use Rattle.cool_simulation.specs.Loadings.{Loading}
use Rattle.cool_simulation.specs.Simulation.{Runs, Room, Way}
use Rattle.cool_simulation.specs.Shown.{Comes}
use Rattle.cool_simulation.specs.Visits.{Visit, Visits, behind}
use Rattle.cool_simulation.proofs.ground.PartsOfRuns.{part_room, rest_room, room_rest}
use Rattle.cool_simulation.proofs.ground.Passages.{plain}

-- a proof by two cases
pub cases : {A B C : Type 0} → A ⊎ B → (A → C) → (B → C) → C
cases (inl a) f g = f a
cases (inr b) f g = g b

-- a property of the value of an outcome
abbrev pub on_value : {A : Type 0} → (A → State → ℕ → Type 0) → Outcome A → Type 0
on_value P (Val v t left) = P v t left
on_value P (Stop e t) = ⊥
on_value P (On t) = ⊥
on_value P Stuck = ⊥

-- visits after a computation are visits after its value
pub value_behind : {A : Type 0} (d : Computation A) (V : A → Visits) (st : State) (n : ℕ) (x : Visit) → behind d V st n x → on_value (λ v t left. V v t left x) (d st n).outcome
value_behind d V st n x (v, t, left, e, h) = subst (λ o. on_value (λ v t left. V v t left x) o) (sym e) h

module _ (w : World) where
  -- at once
  pub comes_here : (s : Machine) (P : Machine → Type 0) → P s → Comes w s P
  comes_here s P h = (0, here w s (stands P) h)

  comes_from : (s : Machine) (k lo : ℕ) (P Q : Machine → Type 0) (o : MachineOutcome) → run w.text w.segments k s ≡ o → Ends w lo (stands P) k o → ((t : Machine) → P t → Comes w t Q) → Comes w s Q
  comes_from s k lo P Q (Running t) e h next =
      let r = next t h.1 in (
        k + r.0,
        then w s 0 k 0 r.0 (λ u. t ≡ u) (stands Q)
            (record { count = k; within = omega arith; ends = subst (λ o. Ends w 0 (stands (λ u. t ≡ u)) k o) (sym e) (omega arith, refl) })
            (λ u same. subst (λ u. Reaches w u 0 r.0 (stands Q)) same r.1),
      )
  comes_from s k lo P Q (Exited code t) e (inl h) next = absurd h
  comes_from s k lo P Q (Exited code t) e (inr h) next = (k, record { count = k; within = omega arith; ends = subst (λ o. Ends w 0 (stands Q) k o) (sym e) (inr h) })
  comes_from s k lo P Q (Trapped trap t) e h next = absurd h

  -- a stretch, and then the way from there
  pub comes_behind : (s : Machine) (lo hi : ℕ) (P Q : Machine → Type 0) → Reaches w s lo hi (stands P) → ((t : Machine) → P t → Comes w t Q) → Comes w s Q
  comes_behind s lo hi P Q r next = comes_from s r.count lo P Q (run w.text w.segments r.count s) refl r.ends next

module _ (l : Loading) where
  -- a part that comes to a value, and then the way from there
  pub comes_after : {A : Type 0} → l.watch ≡ None → (o : Outcome A) (s : Machine) (n most : ℕ) (K : A → State → Machine → Type 0) (v : A) (t : State) (left : ℕ) (Q : Machine → Type 0) → o ≡ Val v t left → Runs l s n most K o
      → ((u : Machine) → K v t u → Comes l.world u Q) → Comes l.world s Q
  comes_after none o s n most K v t left Q e runs next = comes_behind l.world s (n - left) most (K v t) Q (plain l none s (n - left) most (stands (K v t)) (subst (λ o. Runs l s n most K o) e runs)) next

  -- The room of a computation that is not stuck.
  pub record Ample {A : Type 0} (q : Pointers) (besides : ℕ) (r : Metered A) : Type 0 where
    pub room : Room l q besides r
    pub alive : r.outcome ≡ Stuck → ⊥

  -- the room of a rule's premises
  pub ample_ruled : {A : Type 0} (q : Pointers) (besides : ℕ) (r : Metered A) → Ample q besides (record { outcome = r.outcome; work = 1 + r.work; words = r.words; peak = 1 + r.peak }) → Ample q (besides + 16) r
  ample_ruled q besides r h = record { room = let heap = h.room.heap in let stack = h.room.stack in record { heap = omega arith; stack = omega arith; way = h.room.way }; alive = h.alive }

  -- the room of a computation that takes no more
  pub ample_less : {A : Type 0} (q q' : Pointers) (a b : ℕ) (r : Metered A) → q'.gp ≤ q.gp → q.sp + b ≤ q'.sp + a → Ample q a r → Ample q' b r
  ample_less q q' a b r used pushed h = record { room = let heap = h.room.heap in let stack = h.room.stack in record { heap = omega arith; stack = omega arith; way = h.room.way }; alive = h.alive }

  -- the room of the part that comes first
  pub room_first : {A B : Type 0} (r : Metered A) (F : A → Computation B) (q : Pointers) (besides : ℕ) → ((v : A) (t : State) (left : ℕ) → After t (F v t left).outcome) → Ample q besides (seq r F) → Room l q 0 r
  room_first r F q besides later h =
      let room = part_room l r.outcome r.work r.words r.peak F q besides later h.alive h.room in
      let stack = room.stack in
      record { heap = room.heap; stack = omega arith; way = room.way }

  pub stuck_first : {A B : Type 0} (o : Outcome A) (wk ws pk : ℕ) (F : A → Computation B) → o ≡ Stuck → (seq_of o wk ws pk F).outcome ≡ Stuck
  stuck_first o wk ws pk F e = subst (λ x. (seq_of x wk ws pk F).outcome ≡ Stuck) (sym e) refl

  still_alive : {A B : Type 0} (o : Outcome A) (wk ws pk : ℕ) (F : A → Computation B) (v : A) (t : State) (left : ℕ) → o ≡ Val v t left → ((seq_of o wk ws pk F).outcome ≡ Stuck → ⊥) → (F v t left).outcome ≡ Stuck → ⊥
  still_alive o wk ws pk F v t left e alive = by (subst (λ x. (seq_of x wk ws pk F).outcome ≡ Stuck → ⊥) e alive)
    where
      by : ((seq_of (Val v t left) wk ws pk F).outcome ≡ Stuck → ⊥) → (F v t left).outcome ≡ Stuck → ⊥
      by h = h

  -- the room of the computation after it, if the heap was used up to gp and words were pushed
  pub ample_then : {A B : Type 0} (r : Metered A) (F : A → Computation B) (q q' : Pointers) (a b : ℕ) (v : A) (t : State) (left : ℕ) → r.outcome ≡ Val v t left → Ample q a (seq r F) → q'.gp ≤ q.gp + 4 * r.words
      → q.sp + b ≤ q'.sp + a → Ample q' b (F v t left)
  ample_then r F q q' a b v t left e h used pushed = record {
    room = room_rest l q q' a b r.words (F v t left) used pushed (rest_room l r.outcome r.work r.words r.peak F q a v t left e h.room);
    alive = still_alive r.outcome r.work r.words r.peak F v t left e h.alive;
  }

  -- the room of the same outcome with meters no greater
  pub ample_as : {A : Type 0} (q q' : Pointers) (a b : ℕ) (r r' : Metered A) → r.outcome ≡ r'.outcome → r'.words ≤ r.words → r'.peak ≤ r.peak → q'.gp ≤ q.gp → q.sp + b ≤ q'.sp + a → Ample q a r → Ample q' b r'
  ample_as q q' a b r r' same words peak used pushed h = record {
    room = let heap = h.room.heap in let stack = h.room.stack in record { heap = omega arith; stack = omega arith; way = subst (λ o. Way l o) same h.room.way };
    alive = λ e. h.alive (same ∙ e);
  }

  -- while so many are held
  pub ample_held : {A : Type 0} (q q' : Pointers) (a held b : ℕ) (r : Metered A) → q'.gp ≤ q.gp → q.sp + b ≤ q'.sp + a + 16 * held → Ample q a (record { outcome = r.outcome; work = r.work; words = r.words; peak = held + r.peak }) → Ample q' b r
  ample_held q q' a held b r used pushed h = record { room = let heap = h.room.heap in let stack = h.room.stack in record { heap = omega arith; stack = omega arith; way = h.room.way }; alive = h.alive }

  -- the room of the part that comes first, with as much besides
  pub ample_first : {A B : Type 0} (r : Metered A) (F : A → Computation B) (q : Pointers) (besides : ℕ) → ((v : A) (t : State) (left : ℕ) → After t (F v t left).outcome) → Ample q besides (seq r F) → Ample q besides r
  ample_first r F q besides later h = record { room = part_room l r.outcome r.work r.words r.peak F q besides later h.alive h.room; alive = λ e. h.alive (stuck_first r.outcome r.work r.words r.peak F e) }
