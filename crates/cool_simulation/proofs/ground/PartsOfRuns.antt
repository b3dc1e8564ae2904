-- Runs compose: the run of a part, followed by the run of the rest, is a run of the whole within the sum of their instruction, heap and stack bounds.
use Rattle.std.proofs.Common.{◌≡◌, ℕ, ◌+◌, ◌-◌, ◌*◌, ◌≤◌, ℤ, List, ◌++◌, refl, sym, ap, ◌∙◌, subst, arith, append_assoc}
use Rattle.std.specs.Prelude.{Bool as Truth, true, false}
use Rattle.mips_isa.specs.Calls.{State as Machine}
use Rattle.cool_runtime.specs.Reaches.{Reaches, stands, OnTheWay}
use Rattle.cool_runtime.specs.Machines.{Pointers}
use Rattle.cool_runtime.proofs.Runs.{wider}
use Rattle.mips_isa.specs.Calls.{Outcome as MachineOutcome, Running, Exited, Trapped}
use Rattle.cool_meaning.specs.Values.{Value, Void, Int, Bool, Str, Obj, State}
use Rattle.cool_meaning.specs.Meters.{Outcome, Val, Stop, On, Stuck, Metered, Computation, seq_of, seq, join, ◌>>=◌}
use Rattle.cool_meaning.specs.BasicMethods.{as_truth, as_number}
use Rattle.cool_meaning.specs.SourceRun.{error_text}
use Rattle.cool_meaning.proofs.Later.{Later, After}
use Rattle.cool_simulation.specs.Loadings.{Loading}
use Rattle.cool_simulation.specs.Simulation.{Passes, Runs, Way, Room}
use Rattle.cool_simulation.proofs.ground.Passages.{passes, passes_then, passes_weaker, passes_wider}

-- a weaker property of a state where the run goes on
pub stands_as : (P Q : Machine → Type 0) → ((t : Machine) → P t → Q t) → (o : MachineOutcome) → stands P o → stands Q o
stands_as P Q as' (Running s) h = as' s h
stands_as P Q as' (Exited code s) h = h
stands_as P Q as' (Trapped trap s) h = h

module _ (l : Loading) where
  pub run_wider : {A : Type 0} (o : Outcome A) (s : Machine) (n a b : ℕ) (K : A → State → Machine → Type 0) → a ≤ b → Runs l s n a K o → Runs l s n b K o
  run_wider (Val v t left) s n a b K le h = passes_wider l s (n - left) (n - left) a b _ (omega arith) le h
  run_wider (Stop e t) s n a b K le h = passes_wider l s 0 0 a b _ (omega arith) le h
  run_wider (On t) s n a b K le h = passes_wider l s n n a b _ (omega arith) le h
  run_wider Stuck s n a b K le h = tt

  pub run_as : {A : Type 0} (o : Outcome A) (s : Machine) (n a : ℕ) (K L : A → State → Machine → Type 0) → ((v : A) (t : State) (u : Machine) → K v t u → L v t u) → Runs l s n a K o → Runs l s n a L o
  run_as (Val v t left) s n a K L as' h = passes_weaker l s (n - left) a _ _ (stands_as (K v t) (L v t) (as' v t)) h
  run_as (Stop e t) s n a K L as' h = h
  run_as (On t) s n a K L as' h = h
  run_as Stuck s n a K L as' h = tt

  -- a stretch, and what then runs
  pub run_past : {A : Type 0} (o : Outcome A) (s : Machine) (n n1 a b total : ℕ) (P : Machine → Type 0) (K : A → State → Machine → Type 0) → a + b ≤ total → Passes l s (n - n1) a (stands P)
      → ((u : Machine) → P u → Runs l u n1 b K o) → Runs l s n total K o
  run_past (Val v t left) s n n1 a b total P K le first more = passes_wider l s (n - n1 + (n1 - left)) (n - left) (a + b) total _ (omega arith) le (passes_then l s (n - n1) a (n1 - left) b P _ first more)
  run_past (Stop e t) s n n1 a b total P K le first more = passes_wider l s (n - n1 + 0) 0 (a + b) total _ (omega arith) le (passes_then l s (n - n1) a 0 b P _ first more)
  run_past (On t) s n n1 a b total P K le first more = passes_wider l s (n - n1 + n1) n (a + b) total _ (omega arith) le (passes_then l s (n - n1) a n1 b P _ first more)
  run_past Stuck s n n1 a b total P K le first more = tt

  -- a stretch without a mark
  pub run_behind : {A : Type 0} (o : Outcome A) (s : Machine) (n n1 a b total : ℕ) (P : Machine → Type 0) (K : A → State → Machine → Type 0) → a + b ≤ total → Reaches l.world s (n - n1) a (stands P)
      → ((u : Machine) → P u → Runs l u n1 b K o) → Runs l s n total K o
  run_behind o s n n1 a b total P K le first more = run_past o s n n1 a b total P K le (passes l s (n - n1) a (stands P) first) more

  -- a stretch in which no step is spent
  pub run_after : {A : Type 0} (o : Outcome A) (s : Machine) (n a b total : ℕ) (P : Machine → Type 0) (K : A → State → Machine → Type 0) → a + b ≤ total → Reaches l.world s 0 a (stands P)
      → ((u : Machine) → P u → Runs l u n b K o) → Runs l s n total K o
  run_after o s n a b total P K le first more = run_behind o s n n a b total P K le (wider l.world s 0 (n - n) a a _ (omega arith) (omega arith) first) more

  -- one that begins at a mark
  pub run_from : {A : Type 0} (o : Outcome A) (s : Machine) (n a b total : ℕ) (P : Machine → Type 0) (K : A → State → Machine → Type 0) → a + b ≤ total → Passes l s 0 a (stands P)
      → ((u : Machine) → P u → Runs l u n b K o) → Runs l s n total K o
  run_from o s n a b total P K le first more = run_past o s n n a b total P K le (passes_wider l s 0 (n - n) a a _ (omega arith) (omega arith) first) more

  -- a value at once
  pub run_gives : {A : Type 0} (v : A) (t : State) (s : Machine) (n a b : ℕ) (K : A → State → Machine → Type 0) → a ≤ b → Reaches l.world s 0 a (stands (K v t)) → Runs l s n b K (Val v t n)
  run_gives v t s n a b K le h = passes_wider l s 0 (n - n) a b _ (omega arith) le (passes l s 0 a _ h)

  pub run_comes : {A : Type 0} (v : A) (t : State) (s : Machine) (n a b : ℕ) (K : A → State → Machine → Type 0) → a ≤ b → Passes l s 0 a (stands (K v t)) → Runs l s n b K (Val v t n)
  run_comes v t s n a b K le h = passes_wider l s 0 (n - n) a b _ (omega arith) le h

  -- a part, and what follows its value
  pub run_bind : {A B : Type 0} (o : Outcome A) (wk ws pk : ℕ) (F : A → Computation B) (s : Machine) (n extra part : ℕ) (K : A → State → Machine → Type 0) (L : B → State → Machine → Type 0) → part ≤ 64 * wk
      → Runs l s n part K o → ((v : A) (t : State) (left : ℕ) (u : Machine) → o ≡ Val v t left → K v t u → Runs l u left (64 * (F v t left).work + extra) L (F v t left).outcome)
      → Runs l s n (64 * (seq_of o wk ws pk F).work + extra) L (seq_of o wk ws pk F).outcome
  run_bind (Val v t left) wk ws pk F s n extra part K L le first more =
      run_past (F v t left).outcome s n left part (64 * (F v t left).work + extra) (64 * (wk + (F v t left).work) + extra) (K v t) L (omega arith) first (λ u k. more v t left u refl k)
  run_bind (Stop e t) wk ws pk F s n extra part K L le first more = passes_wider l s 0 0 part (64 * wk + extra) _ (omega arith) (omega arith) first
  run_bind (On t) wk ws pk F s n extra part K L le first more = passes_wider l s n n part (64 * wk + extra) _ (omega arith) (omega arith) first
  run_bind Stuck wk ws pk F s n extra part K L le first more = tt

  -- the work that a rule adds
  pub run_rule : {A : Type 0} (r : Metered A) (s : Machine) (n : ℕ) (K : A → State → Machine → Type 0) → Runs l s n (64 * r.work + 60) K r.outcome → Runs l s n (64 * (1 + r.work) - 4) K r.outcome
  run_rule r s n K h = run_wider r.outcome s n (64 * r.work + 60) (64 * (1 + r.work) - 4) K (omega arith) h

  -- Room

  -- earlier output is on the way, too
  way_before : (s t : State) (more : List ℕ) → Later s t → OnTheWay l.world (t.output ++ more) t.input → OnTheWay l.world s.output s.input
  way_before s t more later way = record {
    written = (
      later.printed ++ (more ++ way.written.0),
      way.written.1 ∙ ap (λ (o : List ℕ). (o ++ more) ++ way.written.0) later.output ∙ append_assoc (s.output ++ later.printed) more way.written.0 ∙ append_assoc s.output later.printed (more ++ way.written.0),
    );
    taken = (later.taken ++ way.taken.0, later.input ∙ ap (λ (i : List ℕ). later.taken ++ i) way.taken.1 ∙ sym (append_assoc later.taken way.taken.0 l.world.left));
  }

  way_on : (s t : State) → Later s t → OnTheWay l.world t.output t.input → OnTheWay l.world s.output s.input
  way_on s t later way = record {
    written = (later.printed ++ way.written.0, way.written.1 ∙ ap (λ (o : List ℕ). o ++ way.written.0) later.output ∙ append_assoc s.output later.printed way.written.0);
    taken = (later.taken ++ way.taken.0, later.input ∙ ap (λ (i : List ℕ). later.taken ++ i) way.taken.1 ∙ sym (append_assoc later.taken way.taken.0 l.world.left));
  }

  -- The console of a state is on the way where that of what follows is. Where a computation is stuck, the run claims nothing.
  pub way_of : {A : Type 0} (s : State) (o : Outcome A) → After s o → (o ≡ Stuck → ⊥) → Way l o → OnTheWay l.world s.output s.input
  way_of s (Val v t n) after some way = way_on s t after way
  way_of s (Stop e t) after some way = way_before s t (error_text l.table l.files e) after way
  way_of s (On t) after some way = way_on s t after way
  way_of s Stuck after some way = absurd (some refl)

  -- if no rule applies, there is nothing to show
  pub unless_stuck : {A : Type 0} (o : Outcome A) (s : Machine) (n a : ℕ) (K : A → State → Machine → Type 0) → ((o ≡ Stuck → ⊥) → Runs l s n a K o) → Runs l s n a K o
  unless_stuck (Val v t left) s n a K h = h (λ e. absurd cc)
  unless_stuck (Stop e t) s n a K h = h (λ e. absurd cc)
  unless_stuck (On t) s n a K h = h (λ e. absurd cc)
  unless_stuck Stuck s n a K h = tt

  -- the room that is left to what follows a part with so many words
  pub record Rest {A : Type 0} (q : Pointers) (besides words : ℕ) (r : Metered A) : Type 0 where
    pub heap : q.gp + 4 * (words + r.words) ≤ l.world.top
    pub stack : l.world.low ≤ q.sp - (besides + 16 * r.peak)
    pub way : Way l r.outcome

  pub part_room : {A B : Type 0} (o : Outcome A) (wk ws pk : ℕ) (F : A → Computation B) (q : Pointers) (besides : ℕ) → ((v : A) (t : State) (left : ℕ) → After t (F v t left).outcome)
      → ((seq_of o wk ws pk F).outcome ≡ Stuck → ⊥) → Room l q besides (seq_of o wk ws pk F) → Room l q besides (record { outcome = o; work = wk; words = ws; peak = pk })
  part_room (Val v t left) wk ws pk F q besides later some room =
      let heap = room.heap in let stack = room.stack in
      record { heap = omega arith; stack = omega arith; way = way_of t (F v t left).outcome (later v t left) some room.way }
  part_room (Stop e t) wk ws pk F q besides later some room = record { heap = room.heap; stack = room.stack; way = room.way }
  part_room (On t) wk ws pk F q besides later some room = record { heap = room.heap; stack = room.stack; way = room.way }
  part_room Stuck wk ws pk F q besides later some room = absurd (some refl)

  pub rest_room : {A B : Type 0} (o : Outcome A) (wk ws pk : ℕ) (F : A → Computation B) (q : Pointers) (besides : ℕ) (v : A) (t : State) (left : ℕ) → o ≡ Val v t left → Room l q besides (seq_of o wk ws pk F)
      → Rest q besides ws (F v t left)
  rest_room o wk ws pk F q besides v t left e room = by (subst (λ x. Room l q besides (seq_of x wk ws pk F)) e room)
    where
      by : Room l q besides (seq_of (Val v t left) wk ws pk F) → Rest q besides ws (F v t left)
      by room = let heap = room.heap in let stack = room.stack in record { heap = omega arith; stack = omega arith; way = room.way }

  -- A part within its room, and what follows within the rest.
  pub bind_runs : {A B : Type 0} (r : Metered A) (F : A → Computation B) (s : Machine) (n extra : ℕ) (q : Pointers) (besides : ℕ) (K : A → State → Machine → Type 0) (L : B → State → Machine → Type 0)
      → ((v : A) (t : State) (left : ℕ) → After t (F v t left).outcome) → Room l q besides (seq r F) → (Room l q besides r → Runs l s n (64 * r.work) K r.outcome)
      → ((v : A) (t : State) (left : ℕ) (u : Machine) → r.outcome ≡ Val v t left → K v t u → (seq r F).words ≡ r.words + (F v t left).words → Rest q besides r.words (F v t left)
      → Runs l u left (64 * (F v t left).work + extra) L (F v t left).outcome)
      → Runs l s n (64 * (seq r F).work + extra) L (seq r F).outcome
  bind_runs r F s n extra q besides K L later room first more =
      unless_stuck (seq r F).outcome s n (64 * (seq r F).work + extra) L (λ some.
      run_bind r.outcome r.work r.words r.peak F s n extra (64 * r.work) K L (omega arith) (first (part_room r.outcome r.work r.words r.peak F q besides later some room))
      (λ v t left u e k. more v t left u e k (ap (λ o. (seq_of o r.work r.words r.peak F).words) e) (rest_room r.outcome r.work r.words r.peak F q besides v t left e room)))

  -- the room of a part that is asked for less
  pub room_less : {A : Type 0} (q : Pointers) (a b : ℕ) (r : Metered A) → b ≤ a → Room l q a r → Room l q b r
  room_less q a b r le room = let stack = room.stack in record { heap = room.heap; stack = omega arith; way = room.way }

  -- a rule is pending
  pub room_ruled : {A : Type 0} (q : Pointers) (b : ℕ) (r : Metered A) → Room l q b (record { outcome = r.outcome; work = 1 + r.work; words = r.words; peak = 1 + r.peak }) → Room l q (b + 16) r
  room_ruled q b r room = let stack = room.stack in record { heap = room.heap; stack = omega arith; way = room.way }

  -- the room of a part, from the rest, if the heap was used up to gp and words were pushed
  pub room_rest : {A : Type 0} (q q' : Pointers) (a b words : ℕ) (r : Metered A) → q'.gp ≤ q.gp + 4 * words → q.sp + b ≤ q'.sp + a → Rest q a words r → Room l q' b r
  room_rest q q' a b words r used pushed rest = let heap = rest.heap in let stack = rest.stack in record { heap = omega arith; stack = omega arith; way = rest.way }

  -- a run, and then a stretch from its value
  pub run_on : {A : Type 0} (o : Outcome A) (s : Machine) (n a b total : ℕ) (K L : A → State → Machine → Type 0) → a + b ≤ total → Runs l s n a K o → ((v : A) (t : State) (u : Machine) → K v t u → Reaches l.world u 0 b (stands (L v t)))
      → Runs l s n total L o
  run_on (Val v t left) s n a b total K L le h more =
      passes_wider l s (n - left + 0) (n - left) (a + b) total _ (omega arith) le (passes_then l s (n - left) a 0 b (K v t) _ h (λ u k. passes l u 0 b (stands (L v t)) (more v t u k)))
  run_on (Stop e t) s n a b total K L le h more = passes_wider l s 0 0 a total _ (omega arith) (omega arith) h
  run_on (On t) s n a b total K L le h more = passes_wider l s n n a total _ (omega arith) (omega arith) h
  run_on Stuck s n a b total K L le h more = tt

  -- The truth and the number of a value: where it is none, no rule applies.

  pub same_rest : {A : Type 0} (q : Pointers) (besides words : ℕ) (r : Metered A) → Rest q besides words (join 0 0 0 r) → Rest q besides words r
  same_rest q besides words r rest = let heap = rest.heap in let stack = rest.stack in record { heap = omega arith; stack = omega arith; way = rest.way }

  same_runs : {A : Type 0} (r : Metered A) (s : Machine) (n extra : ℕ) (L : A → State → Machine → Type 0) → Runs l s n (64 * r.work + extra) L r.outcome → Runs l s n (64 * (join 0 0 0 r).work + extra) L (join 0 0 0 r).outcome
  same_runs r s n extra L h = run_wider r.outcome s n (64 * r.work + extra) (64 * (0 + r.work) + extra) L (omega arith) h

  pub truth_runs : {B : Type 0} (v : Value) (G : Truth → Computation B) (s : Machine) (t : State) (left extra : ℕ) (q : Pointers) (besides words : ℕ) (L : B → State → Machine → Type 0) → Rest q besides words ((as_truth v >>= G) t left)
      → ((x : Truth) → v ≡ Bool x → ((as_truth v >>= G) t left).words ≡ (G x t left).words → Rest q besides words (G x t left) → Runs l s left (64 * (G x t left).work + extra) L (G x t left).outcome)
      → Runs l s left (64 * ((as_truth v >>= G) t left).work + extra) L ((as_truth v >>= G) t left).outcome
  truth_runs (Bool x) G s t left extra q besides words L rest more = same_runs (G x t left) s left extra L (more x refl (omega arith) (same_rest q besides words (G x t left) rest))
  truth_runs Void G s t left extra q besides words L rest more = tt
  truth_runs (Int n) G s t left extra q besides words L rest more = tt
  truth_runs (Str bytes) G s t left extra q besides words L rest more = tt
  truth_runs (Obj c i ls) G s t left extra q besides words L rest more = tt

  pub number_runs : {B : Type 0} (v : Value) (G : ℤ → Computation B) (s : Machine) (t : State) (left extra : ℕ) (q : Pointers) (besides words : ℕ) (L : B → State → Machine → Type 0) → Rest q besides words ((as_number v >>= G) t left)
      → ((x : ℤ) → v ≡ Int x → ((as_number v >>= G) t left).words ≡ (G x t left).words → Rest q besides words (G x t left) → Runs l s left (64 * (G x t left).work + extra) L (G x t left).outcome)
      → Runs l s left (64 * ((as_number v >>= G) t left).work + extra) L ((as_number v >>= G) t left).outcome
  number_runs (Int x) G s t left extra q besides words L rest more = same_runs (G x t left) s left extra L (more x refl (omega arith) (same_rest q besides words (G x t left) rest))
  number_runs Void G s t left extra q besides words L rest more = tt
  number_runs (Bool x) G s t left extra q besides words L rest more = tt
  number_runs (Str bytes) G s t left extra q besides words L rest more = tt
  number_runs (Obj c i ls) G s t left extra q besides words L rest more = tt

  -- the same by the two truths
  pub truth_cases : {B : Type 0} (v : Value) (G : Truth → Computation B) (s : Machine) (t : State) (left extra : ℕ) (q : Pointers) (besides words : ℕ) (L : B → State → Machine → Type 0) → Rest q besides words ((as_truth v >>= G) t left)
      → (v ≡ Bool true → ((as_truth v >>= G) t left).words ≡ (G true t left).words → Rest q besides words (G true t left) → Runs l s left (64 * (G true t left).work + extra) L (G true t left).outcome)
      → (v ≡ Bool false → ((as_truth v >>= G) t left).words ≡ (G false t left).words → Rest q besides words (G false t left) → Runs l s left (64 * (G false t left).work + extra) L (G false t left).outcome)
      → Runs l s left (64 * ((as_truth v >>= G) t left).work + extra) L ((as_truth v >>= G) t left).outcome
  truth_cases v G s t left extra q besides words L rest first second = truth_runs v G s t left extra q besides words L rest by
    where
      by : (x : Truth) → v ≡ Bool x → ((as_truth v >>= G) t left).words ≡ (G x t left).words → Rest q besides words (G x t left) → Runs l s left (64 * (G x t left).work + extra) L (G x t left).outcome
      by true is same rest' = first is same rest'
      by false is same rest' = second is same rest'

  -- two numbers
  pub numbers_runs : {B : Type 0} (v w : Value) (G : ℤ → ℤ → Computation B) (s : Machine) (t : State) (left extra : ℕ) (L : B → State → Machine → Type 0)
      → ((x y : ℤ) → v ≡ Int x → w ≡ Int y → ((as_number v >>= λ m. as_number w >>= λ n. G m n) t left).words ≡ (G x y t left).words
      → ((as_number v >>= λ m. as_number w >>= λ n. G m n) t left).outcome ≡ (G x y t left).outcome → Runs l s left (64 * (G x y t left).work + extra) L (G x y t left).outcome)
      → Runs l s left (64 * ((as_number v >>= λ m. as_number w >>= λ n. G m n) t left).work + extra) L ((as_number v >>= λ m. as_number w >>= λ n. G m n) t left).outcome
  numbers_runs (Int x) (Int y) G s t left extra L more = run_wider (G x y t left).outcome s left (64 * (G x y t left).work + extra) (64 * (0 + (0 + (G x y t left).work)) + extra) L (omega arith) (more x y refl refl (omega arith) refl)
  numbers_runs (Int x) Void G s t left extra L more = tt
  numbers_runs (Int x) (Bool y) G s t left extra L more = tt
  numbers_runs (Int x) (Str bytes) G s t left extra L more = tt
  numbers_runs (Int x) (Obj c i ls) G s t left extra L more = tt
  numbers_runs Void w G s t left extra L more = tt
  numbers_runs (Bool x) w G s t left extra L more = tt
  numbers_runs (Str bytes) w G s t left extra L more = tt
  numbers_runs (Obj c i ls) w G s t left extra L more = tt
