-- When no step is left, an evaluation prints and reads nothing before it ends or needs a step, because methods that print or read are calls, which spend a
-- step.
use Rattle.std.proofs.Common.{◌≡◌, ℕ, zero, suc, List, length, Option, Some, None, sym, ◌∙◌, refl, subst}
use Rattle.std.specs.Prelude.{◌==◌, slice_get}
use Rattle.cool_classes.specs.declared.class_id.ClassId.{ClassId}
use Rattle.cool_classes.specs.Chains.{Class}
use Rattle.cool_classes.specs.ClimbedChains.{chain}
use Rattle.cool_meaning.specs.Values.{Value, Void, State}
use Rattle.cool_meaning.specs.Meters.{Outcome, Val, Stop, On, Stuck, Error, Computation, seq_of, ◌>>=◌, ◌>>◌, give, stop, stuck, spend, rule, working, giving, holding, given, locate, load, store}
use Rattle.cool_meaning.specs.Evaluation.{turns, loop, make}
use Rattle.cool_eval.specs.StackMachine.{Frame, Focus, Continue}
use Rattle.cool_eval.proofs.PropertiesOfMeanings.{IsOfWords, IsOfSteps, of_rule, of_if, of_truth, of_configuration}
use Rattle.cool_eval.proofs.StepsMean.{calls, means}

-- the same was printed at both states, and the same is left
pub record SameConsole (s t : State) : Type 0 where
  pub output : t.output ≡ s.output
  pub input : t.input ≡ s.input

console_same : (s : State) → SameConsole s s
console_same s = record { output = refl; input = refl }

console_on : (s t u : State) → SameConsole s t → SameConsole t u → SameConsole s u
console_on s t u h k = record { output = k.output ∙ h.output; input = k.input ∙ h.input }

-- an outcome with no step left where it is a value, and the console as it was
abbrev pub IsStill : {A : Type 0} → State → Outcome A → Type 0
IsStill s (Val v t n) = SameConsole s t × (n ≡ 0)
IsStill s (Stop e t) = SameConsole s t
IsStill s (On t) = SameConsole s t
IsStill s Stuck = Unit {0}

still_on : {A : Type 0} (s t : State) (o : Outcome A) → SameConsole s t → IsStill t o → IsStill s o
still_on s t (Val v u n) h (k, none) = (console_on s t u h k, none)
still_on s t (Stop e u) h k = console_on s t u h k
still_on s t (On u) h k = console_on s t u h k
still_on s t Stuck h k = tt

-- so it is of a computation that has no step
record Still {A : Type 0} (d : Computation A) : Type 0 where
  at : (s : State) → IsStill s (d s zero).outcome

seq_still : {A B : Type 0} (s : State) (o : Outcome A) (w g q : ℕ) (f : A → Computation B) → IsStill s o
    → ((v : A) → Still (f v)) → IsStill s (seq_of o w g q f).outcome
seq_still s (Val v t n) w g q f (h, none) k =
    subst (λ (m : ℕ). IsStill s (f v t m).outcome) (sym none) (still_on s t (f v t zero).outcome h ((k v).at t))
seq_still s (Stop e t) w g q f h k = h
seq_still s (On t) w g q f h k = h
seq_still s Stuck w g q f h k = tt

bind_still : {A B : Type 0} {d : Computation A} {f : A → Computation B} → Still d → ((v : A) → Still (f v)) → Still (d >>= f)
bind_still {d = d} {f = f} h k =
    record { at = λ s. seq_still s (d s zero).outcome (d s zero).work (d s zero).words (d s zero).peak f (h.at s) k }

then_still : {A B : Type 0} {d : Computation A} {f : Computation B} → Still d → Still f → Still (d >> f)
then_still {f = f} h k = bind_still {f = λ _. f} h (λ v. k)

give_still : {A : Type 0} (v : A) → Still (give v)
give_still v = record { at = λ s. (console_same s, refl) }

stop_still : {A : Type 0} (e : Error) → Still {A = A} (stop e)
stop_still e = record { at = λ s. console_same s }

stuck_still : {A : Type 0} → Still {A = A} stuck
stuck_still = record { at = λ s. tt }

-- whatever comes after the step
spend_still : {A : Type 0} (d : Computation A) → Still (spend d)
spend_still d = record { at = λ s. console_same s }

working_still : {A : Type 0} (k : ℕ) {d : Computation A} → Still d → Still (working k d)
working_still k h = record { at = λ s. h.at s }

holding_still : {A : Type 0} (k : ℕ) {d : Computation A} → Still d → Still (holding k d)
holding_still k h = record { at = λ s. h.at s }

giving_still : {A : Type 0} (k : ℕ) {d : Computation A} → Still d → Still (giving k d)
giving_still k h = record { at = λ s. h.at s }

locate_still : (v : Value) → Still (locate v)
locate_still v = record { at = λ s. (record { output = refl; input = refl }, refl) }

loaded_still : (o : Option Value) (s : State) → IsStill s (given o s zero).outcome
loaded_still None s = tt
loaded_still (Some v) s = (console_same s, refl)

load_still : (l : ℕ) → Still (load l)
load_still l = record { at = λ s. loaded_still (slice_get s.store l) s }

store_still : (l : ℕ) (v : Value) → Still (store l v)
store_still l v = record { at = λ s. (record { output = refl; input = refl }, refl) }

still_words : IsOfWords (λ A d. Still d)
still_words = record {
  of_give = λ v. give_still v;
  of_stop = λ e. stop_still e;
  of_stuck = stuck_still;
  of_bind = λ h k. bind_still h k;
  of_then = λ h k. then_still h k;
  of_working = λ n h. working_still n h;
  of_giving = λ n h. giving_still n h;
  of_holding = λ n h. holding_still n h;
  of_locate = locate_still;
  of_load = load_still;
  of_store = store_still;
}

-- without a step a loop is its test, and stops before its turn or ends
loop_still : (test body : Computation Value) → Still test → Still (loop test body)
loop_still test body h = record { at = λ s. once.at s }
  where
    once : Still (turns (suc zero) test body)
    once =
        bind_still h (λ v. bind_still (of_truth (λ A d. Still d) still_words v) (λ b.
        of_if (λ A d. Still d) still_words b (spend_still _) (give_still Void)))

value_still : (d : Computation Value) → Still (rule (spend d))
value_still d = of_rule (λ A e. Still e) still_words (spend_still d)

module _ (p : List Class) (a : ℕ) where
  make_still : (o : Option ClassId) → Still (make p (calls p a) o)
  make_still None = stuck_still
  make_still (Some c) =
      of_if (λ A d. Still d) still_words (c.0 == 2) (value_still _) (of_if (λ A d. Still d) still_words (c.0 == 3) (value_still _)
      (of_if (λ A d. Still d) still_words (c.0 == 4) (value_still _)
      (working_still 1 (holding_still (length (chain p c)) (spend_still _)))))

  still_steps : IsOfSteps p a (λ A d. Still d)
  still_steps = record {
    words = still_words;
    of_loop = λ test body h k. loop_still test body h;
    of_turn = λ test body h k. spend_still _;
    of_dispatch = λ at c name v vs. spend_still _;
    of_make = make_still;
  }

  -- the outcome of a configuration without a step left has its console
  pub means_still : (focus : Focus) (fs : List Frame) (s : State) → IsStill s (means p a (Continue focus fs s zero))
  means_still focus fs s = (of_configuration p a (λ A d. Still d) still_steps focus fs).at s
