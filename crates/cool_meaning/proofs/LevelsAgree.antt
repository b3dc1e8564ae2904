-- The result of a call by `calls_within`, which has a limit of steps, is the same for all limits greater than the number of steps left. So an evaluation with
-- enough steps is one with calls of the same limit.
use Rattle.std.proofs.Common.{◌≡◌, ℕ, zero, suc, ◌+◌, ◌<◌, ◌≤◌, Bool, true, false, List, ap, sym, ◌∙◌, refl, subst, arith}
use Rattle.std.specs.Prelude.{Option, Some, None, if◌then◌else◌, slice_get}
use Rattle.cool_syntax.specs.Tree.{Tree}
use Rattle.cool_classes.specs.Chains.{Class}
use Rattle.cool_meaning.specs.Values.{Value, Void, Bool as Truth, State, Environment}
use Rattle.cool_meaning.specs.Meters.{Outcome, Val, Stop, On, Stuck, Metered, Computation, join, seq_of, seq, ◌>>=◌, ◌>>◌, give, stop, stuck, spend, working, given, locate, load, store}
use Rattle.cool_meaning.specs.BasicMethods.{as_truth, draw, print, take_line}
use Rattle.cool_meaning.specs.Evaluation.{Call, turns, loop, eval, run_call, calls_within}
use Rattle.cool_meaning.proofs.RelatedEvaluation.{IsKept, IsSpent, eval_kept, call_kept}

-- no more steps are left than before
abbrev pub Fewer : {A : Type 0} → ℕ → Outcome A → Type 0
Fewer n (Val v s left) = left ≤ n
Fewer n (Stop e s) = Unit {0}
Fewer n (On s) = Unit {0}
Fewer n Stuck = Unit {0}

-- with at most b steps, both do the same
pub record Agree {A : Type 0} (b : ℕ) (d d' : Computation A) : Type 0 where
  pub same : (s : State) (n : ℕ) → n ≤ b → d s n ≡ d' s n
  pub fewer : (s : State) (n : ℕ) → n ≤ b → Fewer n (d s n).outcome

pub fewer_on : {A : Type 0} (m n : ℕ) (o : Outcome A) → m ≤ n → Fewer m o → Fewer n o
fewer_on m n (Val v s left) less h = omega arith
fewer_on m n _ less h = tt

seq_same : {A B : Type 0} (b n : ℕ) (o : Outcome A) (w g p : ℕ) (f f' : A → Computation B) → n ≤ b → Fewer n o → ((v : A) → Agree b (f v) (f' v)) → seq_of o w g p f ≡ seq_of o w g p f'
seq_same b n (Val v s left) w g p f f' less h same = ap (join w g p) ((same v).same s left (omega arith))
seq_same b n _ w g p f f' less h same = refl

seq_fewer : {A B : Type 0} (b n : ℕ) (o : Outcome A) (w g p : ℕ) (f f' : A → Computation B) → n ≤ b → Fewer n o → ((v : A) → Agree b (f v) (f' v)) → Fewer n (seq_of o w g p f).outcome
seq_fewer b n (Val v s left) w g p f f' less h same = fewer_on left n (f v s left).outcome (omega arith) ((same v).fewer s left (omega arith))
seq_fewer b n _ w g p f f' less h same = tt

bind_agree : {A B : Type 0} {b : ℕ} {d d' : Computation A} {f f' : A → Computation B} → Agree b d d' → ((v : A) → Agree b (f v) (f' v)) → Agree b (d >>= f) (d' >>= f')
bind_agree {b = b} {d = d} {d' = d'} {f = f} {f' = f'} h k = record {
  same = λ s n less. seq_same b n (d s n).outcome (d s n).work (d s n).words (d s n).peak f f' less (h.fewer s n less) k ∙ ap (λ (m : Metered _). seq m f') (h.same s n less);
  fewer = λ s n less. seq_fewer b n (d s n).outcome (d s n).work (d s n).words (d s n).peak f f' less (h.fewer s n less) k;
}

itself : {A : Type 0} {b : ℕ} (d : Computation A) → ((s : State) (n : ℕ) → Fewer n (d s n).outcome) → Agree b d d
itself d h = record { same = λ s n less. refl; fewer = λ s n less. h s n }

metered_agree : {A : Type 0} {b : ℕ} {d d' : Computation A} (f : Metered A → Metered A) → ((m : Metered A) → (f m).outcome ≡ m.outcome) → Agree b d d' → Agree b (λ s n. f (d s n)) (λ s n. f (d' s n))
metered_agree {d = d} f h k = record { same = λ s n less. ap f (k.same s n less); fewer = λ s n less. subst (λ (o : Outcome _). Fewer n o) (sym (h (d s n))) (k.fewer s n less) }

-- with fewer steps
less_agree : {A : Type 0} {b : ℕ} {d d' : Computation A} (m : ℕ) → m ≤ b → Agree b d d' → Agree m d d'
less_agree m below h = record { same = λ s n less. h.same s n (omega arith); fewer = λ s n less. h.fewer s n (omega arith) }

truth_agree : (b : ℕ) (v : Value) → Agree b (as_truth v) (as_truth v)
truth_agree b v = itself (as_truth v) (by v)
  where
    by : (v : Value) (s : State) (n : ℕ) → Fewer n (as_truth v s n).outcome
    by (Truth c) s n = omega arith
    by _ s n = tt

if_agree : {A : Type 0} {b : ℕ} (c : Bool) {d d' e e' : Computation A} → Agree b d d' → Agree b e e' → Agree b (if c then d else e) (if c then d' else e')
if_agree true h k = h
if_agree false h k = k

-- a step is spent, and fewer are left after it
spent_same : {A : Type 0} (b : ℕ) (d d' : Computation A) → ((m : ℕ) → m < b → Agree m d d') → (s : State) (n : ℕ) → n ≤ b → spend d s n ≡ spend d' s n
spent_same b d d' h s zero less = refl
spent_same b d d' h s (suc n) less = (h n (omega arith)).same s n (omega arith)

spent_fewer : {A : Type 0} (b : ℕ) (d d' : Computation A) → ((m : ℕ) → m < b → Agree m d d') → (s : State) (n : ℕ) → n ≤ b → Fewer n (spend d s n).outcome
spent_fewer b d d' h s zero less = tt
spent_fewer b d d' h s (suc n) less = fewer_on n (suc n) (d s n).outcome (omega arith) ((h n (omega arith)).fewer s n (omega arith))

spent_agree : {A : Type 0} {b : ℕ} {d d' : Computation A} → ((m : ℕ) → m < b → Agree m d d') → Agree b (spend d) (spend d')
spent_agree {b = b} {d = d} {d' = d'} h = record { same = spent_same b d d' h; fewer = spent_fewer b d d' h }

then_agree : {A B : Type 0} {b : ℕ} {d d' : Computation A} {f f' : Computation B} → Agree b d d' → Agree b f f' → Agree b (d >> f) (d' >> f')
then_agree {d = d} {d' = d'} {f = f} {f' = f'} h k = bind_agree {f = λ _. f} {f' = λ _. f'} h (λ v. k)

working_agree : {A : Type 0} {b : ℕ} (k : ℕ) {d d' : Computation A} → Agree b d d' → Agree b (working k d) (working k d')
working_agree k h = metered_agree (λ m. record { outcome = m.outcome; work = k + m.work; words = m.words; peak = m.peak }) (λ m. refl) h

turns_agree : (j b : ℕ) {test test' body body' : Computation Value} → Agree b test test' → Agree b body body' → Agree b (turns j test body) (turns j test' body')
turns_agree zero b h g = itself _ (λ s n. tt)
turns_agree (suc j) b h g =
    bind_agree h (λ v. bind_agree (truth_agree b v) (λ c. if_agree c
    (spent_agree (λ m below. working_agree 1 (then_agree (less_agree m (omega arith) g) (turns_agree j m (less_agree m (omega arith) h) (less_agree m (omega arith) g)))))
    (itself (give Void) (λ s n. omega arith))))

loop_agree : {b : ℕ} {test test' body body' : Computation Value} → Agree b test test' → Agree b body body' → Agree b (loop test body) (loop test' body')
loop_agree {b = b} h g = record { same = λ s n less. (turns_agree (suc n) b h g).same s n less; fewer = λ s n less. (turns_agree (suc n) b h g).fewer s n less }

-- any two numbers of turns that are more than the steps left do the same
turns_same : (j j' b : ℕ) {test body : Computation Value} → b < j → b < j' → Agree b test test → Agree b body body → Agree b (turns j test body) (turns j' test body)
turns_same zero j' b less less' h g = absurd (omega arith)
turns_same (suc j) zero b less less' h g = absurd (omega arith)
turns_same (suc j) (suc j') b less less' h g =
    bind_agree h (λ v. bind_agree (truth_agree b v) (λ c. if_agree c
    (spent_agree (λ m below. working_agree 1 (then_agree (less_agree m (omega arith) g) (turns_same j j' m (omega arith) (omega arith) (less_agree m (omega arith) h) (less_agree m (omega arith) g)))))
    (itself (give Void) (λ s n. omega arith))))

-- a loop is its test and then a turn before the same loop
pub loop_is : (test body : Computation Value) (n : ℕ) → Agree n test test → Agree n body body → (s : State) → loop test body s n ≡ (test >>= λ v. as_truth v >>= λ c. if c then spend (working 1 (body >> loop test body)) else give Void) s n
loop_is test body n h g s =
    (bind_agree h (λ v. bind_agree (truth_agree n v) (λ c. if_agree c
    (spent_agree (λ m below. working_agree 1 (then_agree (less_agree m (omega arith) g) (later m below))))
    (itself (give Void) (λ s n. omega arith))))).same s n (omega arith)
  where
    later : (m : ℕ) → m < n → Agree m (turns n test body) (loop test body)
    later m below = record {
      same = λ s k less. (turns_same n (suc k) k (omega arith) (omega arith) (less_agree k (omega arith) h) (less_agree k (omega arith) g)).same s k (omega arith);
      fewer = λ s k less. (turns_same n n k (omega arith) (omega arith) (less_agree k (omega arith) h) (less_agree k (omega arith) g)).fewer s k (omega arith);
    }

agree_kept : (b : ℕ) → IsKept (λ A. Agree b)
agree_kept b = record {
  give_kept = λ v. itself (give v) (λ s n. omega arith);
  stop_kept = λ e. itself (stop e) (λ s n. tt);
  stuck_kept = itself stuck (λ s n. tt);
  bind_kept = λ h g. bind_agree h g;
  then_kept = λ h g. then_agree h g;
  working_kept = λ n h. working_agree n h;
  giving_kept = λ n h. metered_agree (λ m. record { outcome = m.outcome; work = m.work; words = n + m.words; peak = m.peak }) (λ m. refl) h;
  holding_kept = λ n h. metered_agree (λ m. record { outcome = m.outcome; work = m.work; words = m.words; peak = n + m.peak }) (λ m. refl) h;
  draw_kept = itself draw (λ s n. omega arith);
  locate_kept = λ v. itself (locate v) (λ s n. omega arith);
  load_kept = λ l. itself (load l) (λ s n. loaded (slice_get s.store l) s n);
  store_kept = λ l v. itself (store l v) (λ s n. omega arith);
  print_kept = λ bytes. itself (print bytes) (λ s n. omega arith);
  take_line_kept = itself take_line (λ s n. omega arith);
}
  where
    loaded : (o : Option Value) (s : State) (n : ℕ) → Fewer n (given o s n).outcome
    loaded None s n = tt
    loaded (Some v) s n = omega arith

below_kept : (b : ℕ) → IsKept (λ A d d'. (m : ℕ) → m < b → Agree m d d')
below_kept b = record {
  give_kept = λ v m less. (agree_kept m).give_kept v;
  stop_kept = λ e m less. (agree_kept m).stop_kept e;
  stuck_kept = λ m less. (agree_kept m).stuck_kept;
  bind_kept = λ h g m less. bind_agree (h m less) (λ v. g v m less);
  then_kept = λ h g m less. then_agree (h m less) (g m less);
  working_kept = λ n h m less. (agree_kept m).working_kept n (h m less);
  giving_kept = λ n h m less. (agree_kept m).giving_kept n (h m less);
  holding_kept = λ n h m less. (agree_kept m).holding_kept n (h m less);
  draw_kept = λ m less. (agree_kept m).draw_kept;
  locate_kept = λ v m less. (agree_kept m).locate_kept v;
  load_kept = λ l m less. (agree_kept m).load_kept l;
  store_kept = λ l v m less. (agree_kept m).store_kept l v;
  print_kept = λ bytes m less. (agree_kept m).print_kept bytes;
  take_line_kept = λ m less. (agree_kept m).take_line_kept;
}

agree_spent : (b : ℕ) → IsSpent (λ A. Agree b) (λ A d d'. (m : ℕ) → m < b → Agree m d d')
agree_spent b = record { before = agree_kept b; after = below_kept b; spend_kept = λ h. spent_agree h; loop_kept = λ h g. loop_agree h g }

-- with at most b steps, calls that may have more do the same, however many more
pub calls_agree : (p : List Class) (a a' b : ℕ) → b < a → b < a' → (call : Call) → Agree b (calls_within p a call) (calls_within p a' call)
calls_agree p zero a' b less less' call = absurd (omega arith)
calls_agree p (suc a) zero b less less' call = absurd (omega arith)
calls_agree p (suc a) (suc a') b less less' call =
    call_kept (λ A. Agree b) (λ A d d'. (m : ℕ) → m < b → Agree m d d') (agree_spent b) p (calls_within p a) (calls_within p a') (λ c m below. calls_agree p a a' m (omega arith) (omega arith) c) call

-- a call does what its body does, with the calls of the same level
pub call_is : (p : List Class) (a : ℕ) (call : Call) (s : State) (n : ℕ) → n < a → calls_within p a call s n ≡ run_call p (calls_within p a) call s n
call_is p zero call s n less = absurd (omega arith)
call_is p (suc a) call s n less =
    (call_kept (λ A. Agree n) (λ A d d'. (m : ℕ) → m < n → Agree m d d') (agree_spent n) p (calls_within p a) (calls_within p (suc a))
    (λ c m below. calls_agree p a (suc a) m (omega arith) (omega arith) c) call).same s n (omega arith)

-- an evaluation does the same with the calls of any level that is no lower than its steps
pub eval_agrees : (p : List Class) (a a' b : ℕ) → b ≤ a → b ≤ a' → (self : Value) (env : Environment) (t : Tree) → Agree b (eval p (calls_within p a) self env t) (eval p (calls_within p a') self env t)
eval_agrees p a a' b less less' self env t =
    eval_kept (λ A. Agree b) (λ A d d'. (m : ℕ) → m < b → Agree m d d') (agree_spent b) p (calls_within p a) (calls_within p a') (λ c m below. calls_agree p a a' m (omega arith) (omega arith) c) self env t
