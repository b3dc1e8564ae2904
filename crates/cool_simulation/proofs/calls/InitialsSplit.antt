-- The evaluation of all initial values of a class is that of the inherited attributes, followed by that of the class's own attributes, and their costs add up.
use Rattle.std.proofs.Common.{◌≡◌, ℕ, ◌+◌, ◌*◌, max, List, [], ◌∷◌, ◌++◌, length, Option, Some, None, ap, sym, ◌∙◌, refl, subst, arith}
use Rattle.std.specs.Prelude.{drop}
use Rattle.mips_isa.specs.Calls.{State as Machine}
use Rattle.cool_syntax.specs.Tree.{Tree}
use Rattle.cool_classes.specs.declared.method.AttributeRef.{AttributeRef}
use Rattle.cool_classes.specs.Chains.{Class}
use Rattle.cool_runtime.specs.Machines.{Pointers}
use Rattle.cool_meaning.specs.Values.{Value, State}
use Rattle.cool_meaning.specs.Meters.{Outcome, Val, Stop, On, Stuck, Metered, Computation, join, seq_of, seq, store}
use Rattle.cool_meaning.specs.Lookups.{init_of, environment_of}
use Rattle.cool_meaning.specs.Evaluation.{Calls, run_initial, run_initials}
use Rattle.cool_meaning.proofs.Later.{After, later_same}
use Rattle.cool_simulation.specs.Loadings.{Loading}
use Rattle.cool_simulation.specs.Simulation.{Runs, Room}
use Rattle.cool_simulation.proofs.ground.EvaluationLater.{ComesLater, CallsLater, eval_later, bind_later, then_later, give_later}
use Rattle.cool_simulation.proofs.ground.PartsOfRuns.{Rest, unless_stuck, way_of, run_past}
use Rattle.cool_simulation.proofs.ground.Passages.{passes_wider}

-- Computations one after another

pub same_metered : {A : Type 0} (m : Metered A) (o : Outcome A) (a b c : ℕ) → m.outcome ≡ o → m.work ≡ a → m.words ≡ b → m.peak ≡ c → m ≡ record { outcome = o; work = a; words = b; peak = c }
same_metered m o a b c eo ea eb ec = λ i. record { outcome = eo i; work = ea i; words = eb i; peak = ec i }

none_joined : {A : Type 0} (m : Metered A) → join 0 0 0 m ≡ m
none_joined m = sym (same_metered m m.outcome (0 + m.work) (0 + m.words) (max 0 m.peak) refl (omega arith) (omega arith) (omega arith))

joined_twice : {A : Type 0} (a b c d e f : ℕ) (m : Metered A) → join (a + d) (b + e) (max c f) m ≡ join a b c (join d e f m)
joined_twice a b c d e f m =
    same_metered (join (a + d) (b + e) (max c f) m) m.outcome (a + (d + m.work)) (b + (e + m.words)) (max c (max f m.peak)) refl (omega arith) (omega arith) (omega arith)

joined_seq : {A B : Type 0} (o : Outcome A) (a b c d e f : ℕ) (h : A → Computation B) → seq_of o (a + d) (b + e) (max c f) h ≡ join a b c (seq_of o d e f h)
joined_seq (Val v t n) a b c d e f h = joined_twice a b c d e f (h v t n)
joined_seq (Stop x t) a b c d e f h = refl
joined_seq (On t) a b c d e f h = refl
joined_seq Stuck a b c d e f h = refl

seq_twice : {A B C : Type 0} (o : Outcome A) (a b c : ℕ) (f : A → Computation B) (h : B → Computation C) → seq (seq_of o a b c f) h ≡ seq_of o a b c (λ v s n. seq (f v s n) h)
seq_twice (Val v t n) a b c f h = joined_seq (f v t n).outcome a b c (f v t n).work (f v t n).words (f v t n).peak h
seq_twice (Stop x t) a b c f h = refl
seq_twice (On t) a b c f h = refl
seq_twice Stuck a b c f h = refl

seq_same : {A B : Type 0} (o : Outcome A) (a b c : ℕ) (f h : A → Computation B) → ((v : A) (s : State) (n : ℕ) → f v s n ≡ h v s n) → seq_of o a b c f ≡ seq_of o a b c h
seq_same (Val v t n) a b c f h same = ap (join a b c) (same v t n)
seq_same (Stop x t) a b c f h same = refl
seq_same (On t) a b c f h same = refl
seq_same Stuck a b c f h same = refl

pub split : (p : List Class) (calls : Calls) (self : Value) (rs rs' : List AttributeRef) (ls : List ℕ) (st : State) (n : ℕ)
    → run_initials p calls self (rs ++ rs') ls st n ≡ seq (run_initials p calls self rs ls st n) (λ v. run_initials p calls self rs' (drop (length rs) ls))
split p calls self [] rs' ls st n = sym (none_joined (run_initials p calls self rs' ls st n))
split p calls self (r ∷ rs) rs' [] st n = refl
split p calls self (r ∷ rs) rs' (l ∷ ls) st n =
    let i = run_initial p calls self l (init_of p r) st n in
    seq_same i.outcome i.work i.words i.peak (λ _. run_initials p calls self (rs ++ rs') ls) (λ _ s k. seq (run_initials p calls self rs ls s k) (λ v. run_initials p calls self rs' (drop (length rs) ls)))
    (λ v s k. split p calls self rs rs' ls s k)
    ∙ sym (seq_twice i.outcome i.work i.words i.peak (λ _. run_initials p calls self rs ls) (λ v. run_initials p calls self rs' (drop (length rs) ls)))

-- they come to later states
store_later : (l : ℕ) (v : Value) → ComesLater (store l v)
store_later l v = record { later = λ s n. later_same s _ refl refl }

initial_later : (p : List Class) (calls : Calls) → CallsLater calls → (self : Value) (l : ℕ) (o : Option Tree) → ComesLater (run_initial p calls self l o)
initial_later p calls later self l None = give_later tt
initial_later p calls later self l (Some t) = record { later = (bind_later (eval_later p calls later self (environment_of p self) t) (λ v. store_later l v)).later }

pub initials_later : (p : List Class) (calls : Calls) → CallsLater calls → (self : Value) (rs : List AttributeRef) (ls : List ℕ) → ComesLater (run_initials p calls self rs ls)
initials_later p calls later self [] ls = give_later self
initials_later p calls later self (r ∷ rs) [] = record { later = λ s n. tt }
initials_later p calls later self (r ∷ rs) (l ∷ ls) = then_later (initial_later p calls later self l (init_of p r)) (initials_later p calls later self rs ls)

-- A part with some instructions more than its work, and the rest.

module _ (l : Loading) where
  wide_by : {A B : Type 0} (o : Outcome A) (wk ws pk : ℕ) (F : A → Computation B) (s : Machine) (n more extra : ℕ) (K : A → State → Machine → Type 0) (L : B → State → Machine → Type 0) → Runs l s n (64 * wk + more) K o
      → ((v : A) (t : State) (left : ℕ) (u : Machine) → o ≡ Val v t left → K v t u → Runs l u left (64 * (F v t left).work + extra) L (F v t left).outcome)
      → Runs l s n (64 * (seq_of o wk ws pk F).work + (more + extra)) L (seq_of o wk ws pk F).outcome
  wide_by (Val v t left) wk ws pk F s n more extra K L first rest =
      run_past l (F v t left).outcome s n left (64 * wk + more) (64 * (F v t left).work + extra) (64 * (wk + (F v t left).work) + (more + extra)) (K v t) L (omega arith) first (λ u k. rest v t left u refl k)
  wide_by (Stop e t) wk ws pk F s n more extra K L first rest = passes_wider l s 0 0 (64 * wk + more) (64 * wk + (more + extra)) _ (omega arith) (omega arith) first
  wide_by (On t) wk ws pk F s n more extra K L first rest = passes_wider l s n n (64 * wk + more) (64 * wk + (more + extra)) _ (omega arith) (omega arith) first
  wide_by Stuck wk ws pk F s n more extra K L first rest = tt

  part_of : {A B : Type 0} (o : Outcome A) (wk ws pk : ℕ) (F : A → Computation B) (q : Pointers) (besides : ℕ) → ((v : A) (t : State) (left : ℕ) → After t (F v t left).outcome)
      → ((seq_of o wk ws pk F).outcome ≡ Stuck → ⊥) → Room l q besides (seq_of o wk ws pk F) → Room l q besides (record { outcome = o; work = wk; words = ws; peak = pk })
  part_of (Val v t left) wk ws pk F q besides later some room =
      let heap = room.heap in let stack = room.stack in
      record { heap = omega arith; stack = omega arith; way = way_of l t (F v t left).outcome (later v t left) some room.way }
  part_of (Stop e t) wk ws pk F q besides later some room = record { heap = room.heap; stack = room.stack; way = room.way }
  part_of (On t) wk ws pk F q besides later some room = record { heap = room.heap; stack = room.stack; way = room.way }
  part_of Stuck wk ws pk F q besides later some room = absurd (some refl)

  rest_of : {A B : Type 0} (o : Outcome A) (wk ws pk : ℕ) (F : A → Computation B) (q : Pointers) (besides : ℕ) (v : A) (t : State) (left : ℕ) → o ≡ Val v t left → Room l q besides (seq_of o wk ws pk F)
      → Rest l q besides ws (F v t left)
  rest_of o wk ws pk F q besides v t left e room = by (subst (λ x. Room l q besides (seq_of x wk ws pk F)) e room)
    where
      by : Room l q besides (seq_of (Val v t left) wk ws pk F) → Rest l q besides ws (F v t left)
      by room = let heap = room.heap in let stack = room.stack in record { heap = omega arith; stack = omega arith; way = room.way }

  pub wide_runs : {A B : Type 0} (r : Metered A) (F : A → Computation B) (s : Machine) (n more extra : ℕ) (q : Pointers) (besides : ℕ) (K : A → State → Machine → Type 0) (L : B → State → Machine → Type 0)
      → ((v : A) (t : State) (left : ℕ) → After t (F v t left).outcome) → Room l q besides (seq r F) → (Room l q besides r → Runs l s n (64 * r.work + more) K r.outcome)
      → ((v : A) (t : State) (left : ℕ) (u : Machine) → r.outcome ≡ Val v t left → K v t u → (seq r F).words ≡ r.words + (F v t left).words → Rest l q besides r.words (F v t left)
      → Runs l u left (64 * (F v t left).work + extra) L (F v t left).outcome)
      → Runs l s n (64 * (seq r F).work + (more + extra)) L (seq r F).outcome
  wide_runs r F s n more extra q besides K L later room first rest =
      unless_stuck l (seq r F).outcome s n (64 * (seq r F).work + (more + extra)) L (λ some.
      wide_by r.outcome r.work r.words r.peak F s n more extra K L (first (part_of r.outcome r.work r.words r.peak F q besides later some room))
      (λ v t left u e k. rest v t left u e k (ap (λ o. (seq_of o r.work r.words r.peak F).words) e) (rest_of r.outcome r.work r.words r.peak F q besides v t left e room)))
