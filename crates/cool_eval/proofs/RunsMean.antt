-- The evaluation that the first configuration of the stack machine represents is the run of the program by the semantics.
use Rattle.std.proofs.Common.{◌≡◌, ℕ, List, [], ap, sym, ◌∙◌, refl}
use Rattle.cool_classes.specs.Chains.{Class}
use Rattle.cool_meaning.specs.Values.{Value, Void, start}
use Rattle.cool_meaning.specs.Meters.{Outcome, Val, seq_of, give}
use Rattle.cool_meaning.specs.Evaluation.{eval, calls_within}
use Rattle.cool_meaning.specs.SourceRun.{Run, main_call, run_of, run}
use Rattle.cool_eval.specs.StackMachine.{Begin, Continue, Halt}
use Rattle.cool_eval.proofs.StepsMean.{means}

-- two runs end alike, with the same output and input left
pub record SameEnd (r r' : Run) : Type 0 where
  pub end : r.end ≡ r'.end
  pub output : r.output ≡ r'.output
  pub left : r.left ≡ r'.left

unmetered_run : (p : List Class) (names : List (List ℕ)) (o : Outcome Value) (w g q w' g' q' : ℕ) → SameEnd (run_of p names o w g q) (run_of p names o w' g' q')
unmetered_run p names (Val v s n) w g q w' g' q' = record { end = refl; output = refl; left = refl }
unmetered_run p names _ w g q w' g' q' = record { end = refl; output = refl; left = refl }

given_back : (o : Outcome Value) (w g q : ℕ) → (seq_of o w g q give).outcome ≡ o
given_back (Val v s n) w g q = refl
given_back _ w g q = refl

-- the start means the whole evaluation
pub start_means : (p : List Class) (input : List ℕ) (n : ℕ) → means p n (Continue (Begin Void [] main_call) [] (start input) n) ≡ (eval p (calls_within p n) Void [] main_call (start input) n).outcome
start_means p input n = let m = eval p (calls_within p n) Void [] main_call (start input) n in given_back m.outcome m.work m.words m.peak

-- a machine that came from the start to an end has the end, the output and the input left of the run
pub run_is : (p : List Class) (names : List (List ℕ)) (input : List ℕ) (n : ℕ) (o : Outcome Value) → means p n (Halt o) ≡ means p n (Continue (Begin Void [] main_call) [] (start input) n)
    → SameEnd (run p names input n) (run_of p names o 0 0 0)
unfolding run
run_is p names input n o is =
    let m = eval p (calls_within p n) Void [] main_call (start input) n in
    let same : m.outcome ≡ o = sym (is ∙ start_means p input n) in
    let r = unmetered_run p names m.outcome m.work m.words m.peak 0 0 0 in
    record {
      end = r.end ∙ ap (λ (x : Outcome Value). (run_of p names x 0 0 0).end) same;
      output = r.output ∙ ap (λ (x : Outcome Value). (run_of p names x 0 0 0).output) same;
      left = r.left ∙ ap (λ (x : Outcome Value). (run_of p names x 0 0 0).left) same;
    }
