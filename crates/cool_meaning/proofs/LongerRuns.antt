-- A run with more steps extends one with fewer steps: it is the same if the shorter run ended, and otherwise it writes and reads at least as much.
use Rattle.std.proofs.Common.{◌≡◌, ◌≢◌, ℕ, ◌+◌, ◌≤◌, List, [], ◌++◌, ap, sym, ◌∙◌, refl, subst, append_assoc, append-nil, arith}
use Rattle.cool_classes.specs.Chains.{Class}
use Rattle.cool_meaning.specs.Values.{Value, Void, State, start}
use Rattle.cool_meaning.specs.Meters.{Outcome, Val, Stop, On, Stuck, Metered}
use Rattle.cool_meaning.specs.Evaluation.{eval, calls_within}
use Rattle.cool_meaning.specs.SourceRun.{Run, End, Done, Failed, GoesOn, IsStuck, ended, done_text, error_text, main_call, run_of, run_from, run}
use Rattle.cool_meaning.specs.Laws.{Extends, IsOver}
use Rattle.cool_meaning.proofs.Later.{Later, After}
use Rattle.cool_meaning.proofs.MoreSteps.{Alike, Longer}
use Rattle.cool_meaning.proofs.LongerEvaluation.{eval_alike}

-- the output of a later state, with a text after it
ended_later : (s t : State) (x y : End) (text : List ℕ) (w g q w' g' q' : ℕ) → Later s t → w ≤ w' → g ≤ g' → q ≤ q' → Extends (ended s x [] w g q) (ended t y text w' g' q')
ended_later s t x y text w g q w' g' q' later a b c = record {
  printed = later.printed ++ text;
  output = ap (λ (xs : List ℕ). xs ++ text) later.output ∙ (append_assoc s.output later.printed text ∙ sym (ap (λ (xs : List ℕ). xs ++ (later.printed ++ text)) (append-nil s.output)));
  taken = later.taken;
  left = later.input;
  work = omega arith;
  words = b;
  peak = c;
}

-- a run that goes on is extended
on_by : (p : List Class) (names : List (List ℕ)) (t : State) (w g q : ℕ) (o : Outcome Value) (w' g' q' : ℕ) → After t o → w ≤ w' → g ≤ g' → q ≤ q'
    → (run_of p names o w' g' q').end ≢ IsStuck → Extends (run_of p names (On t) w g q) (run_of p names o w' g' q')
on_by p names t w g q (Val v u n) w' g' q' later a b c not_stuck = ended_later t u GoesOn Done done_text w g q w' g' q' later a b c
on_by p names t w g q (Stop e u) w' g' q' later a b c not_stuck = ended_later t u GoesOn (Failed e) (error_text p names e) w g q w' g' q' later a b c
on_by p names t w g q (On u) w' g' q' later a b c not_stuck = ended_later t u GoesOn GoesOn [] w g q w' g' q' later a b c
on_by p names t w g q Stuck w' g' q' later a b c not_stuck = absurd (not_stuck refl)

-- a run that ended is the same
over_by : (p : List Class) (names : List (List ℕ)) (k : ℕ) (o : Outcome Value) (w g q : ℕ) (m : Metered Value) → Longer k o w g q m → IsOver (run_of p names o w g q).end
    → run_from p names m ≡ run_of p names o w g q
over_by p names k (Val v t n) w g q m (n', e, is) h = ap (run_from p names) is
over_by p names k (Stop x t) w g q m is h = ap (run_from p names) is
over_by p names k (On t) w g q m on h = absurd h
over_by p names k Stuck w g q m on h = absurd h

further_by : (p : List Class) (names : List (List ℕ)) (k : ℕ) (o : Outcome Value) (w g q : ℕ) (m : Metered Value) → Longer k o w g q m → (run_of p names o w g q).end ≡ GoesOn
    → (run_from p names m).end ≢ IsStuck → Extends (run_of p names o w g q) (run_from p names m)
further_by p names k (Val v t n) w g q m is e h = absurd (cc)
further_by p names k (Stop x t) w g q m is e h = absurd (cc)
further_by p names k (On t) w g q m on e h = on_by p names t w g q m.outcome m.work m.words m.peak on.after on.work on.words on.peak h
further_by p names k Stuck w g q m is e h = absurd (cc)

main_longer : (p : List Class) (input : List ℕ) (n k : ℕ) → Alike (eval p (calls_within p n) Void [] main_call) (eval p (calls_within p (n + k)) Void [] main_call)
main_longer p input n k = eval_alike p n (n + k) k refl Void [] main_call

abbrev main_at : List Class → List ℕ → ℕ → Metered Value
main_at p input n = eval p (calls_within p n) Void [] main_call (start input) n

pub longer_over : (p : List Class) (names : List (List ℕ)) (input : List ℕ) (n k : ℕ) → IsOver (run p names input n).end → run p names input (n + k) ≡ run p names input n
unfolding run
longer_over p names input n k h =
    let m = main_at p input n in
    over_by p names k m.outcome m.work m.words m.peak (main_at p input (n + k)) ((main_longer p input n k).alike (start input) n (n + k) k refl).longer h

longer_further : (p : List Class) (names : List (List ℕ)) (input : List ℕ) (n k : ℕ) → (run p names input n).end ≡ GoesOn → (run p names input (n + k)).end ≢ IsStuck
    → Extends (run p names input n) (run p names input (n + k))
unfolding run
longer_further p names input n k e h =
    let m = main_at p input n in
    further_by p names k m.outcome m.work m.words m.peak (main_at p input (n + k)) ((main_longer p input n k).alike (start input) n (n + k) k refl).longer e h

-- a run that is the same extends itself
extends_same : (r : Run) → Extends r r
extends_same r = record { printed = []; output = sym (append-nil r.output); taken = []; left = refl; work = omega arith; words = omega arith; peak = omega arith }

-- if no run is stuck, each longer run extends a shorter one
pub longer_extends : (p : List Class) (names : List (List ℕ)) (input : List ℕ) → ((n : ℕ) → (run p names input n).end ≢ IsStuck) → (n k : ℕ) → Extends (run p names input n) (run p names input (n + k))
longer_extends p names input never n k = by (run p names input n).end refl
  where
    over : IsOver (run p names input n).end → Extends (run p names input n) (run p names input (n + k))
    over h = subst (λ (r : Run). Extends (run p names input n) r) (sym (longer_over p names input n k h)) (extends_same (run p names input n))

    by : (e : End) → (run p names input n).end ≡ e → Extends (run p names input n) (run p names input (n + k))
    by Done is = over (subst IsOver (sym is) tt)
    by (Failed x) is = over (subst IsOver (sym is) tt)
    by GoesOn is = longer_further p names input n k is (never (n + k))
    by IsStuck is = absurd (never n is)
