-- An evaluation with more steps has the same result if the evaluation with fewer steps ended, and otherwise goes on from where that one stopped.
use Rattle.std.proofs.Common.{◌≡◌, ℕ, zero, suc, ◌+◌, List, arith}
use Rattle.std.specs.Prelude.{if◌then◌else◌}
use Rattle.cool_syntax.specs.Tree.{Tree}
use Rattle.cool_classes.specs.Chains.{Class}
use Rattle.cool_meaning.specs.Values.{Value, Void, Bool, Environment}
use Rattle.cool_meaning.specs.Meters.{Computation, ◌>>=◌, ◌>>◌, give, spend, working}
use Rattle.cool_meaning.specs.BasicMethods.{as_truth}
use Rattle.cool_meaning.specs.Evaluation.{Call, turns, loop, eval, calls_within}
use Rattle.cool_meaning.proofs.MoreSteps.{Alike, bind_alike, then_alike, give_alike, stop_alike, no_rule_alike, stuck_alike, after_of, spend_alike, working_alike, giving_alike, holding_alike, if_alike, draw_alike, locate_alike, load_alike, store_alike, print_alike, take_line_alike}
use Rattle.cool_meaning.proofs.RelatedEvaluation.{IsKept, IsSpent, eval_kept, call_kept}

-- Loops

truth_alike : (v : Value) → Alike (as_truth v) (as_truth v)
truth_alike (Bool b) = give_alike b
truth_alike _ = no_rule_alike

turn_alike : {test test' body body' next next' : Computation Value} → Alike test test' → Alike body body' → Alike next next'
    → Alike (test >>= λ v. as_truth v >>= λ b. if b then spend (working 1 (body >> next)) else give Void) (test' >>= λ v. as_truth v >>= λ b. if b then spend (working 1 (body' >> next')) else give Void)
turn_alike h g k = bind_alike h (λ v. bind_alike (truth_alike v) (λ b. if_alike b (spend_alike (working_alike 1 (then_alike g k))) (give_alike Void)))

-- as many turns
same_turns : (j : ℕ) → {test test' body body' : Computation Value} → Alike test test' → Alike body body' → Alike (turns j test body) (turns j test' body')
same_turns zero h g = no_rule_alike
same_turns (suc j) h g = turn_alike h g (same_turns j h g)

-- at least as many
more_turns : (j j' k : ℕ) → j' ≡ j + k → {test test' body body' : Computation Value} → Alike test test' → Alike body body' → Alike (turns j test body) (turns j' test' body')
more_turns zero j' k e h g = stuck_alike _ (λ s n. after_of (same_turns j' h g) s n)
more_turns (suc j) zero k e h g = absurd (omega arith)
more_turns (suc j) (suc j') k e h g = turn_alike h g (more_turns j j' k (omega arith) h g)

loop_alike : {test test' body body' : Computation Value} → Alike test test' → Alike body body' → Alike (loop test body) (loop test' body')
loop_alike h g = record { alike = λ s n n' k e. (more_turns (suc n) (suc n') k (omega arith) h g).alike s n n' k e }

-- the words of computations keep it
alike_kept : IsKept (λ A. Alike)
alike_kept = record {
  give_kept = λ v. give_alike v;
  stop_kept = λ e. stop_alike e;
  stuck_kept = no_rule_alike;
  bind_kept = λ h g. bind_alike h g;
  then_kept = λ h g. then_alike h g;
  working_kept = λ n h. working_alike n h;
  giving_kept = λ n h. giving_alike n h;
  holding_kept = λ n h. holding_alike n h;
  draw_kept = draw_alike;
  locate_kept = locate_alike;
  load_kept = load_alike;
  store_kept = store_alike;
  print_kept = print_alike;
  take_line_kept = take_line_alike;
}

alike_spent : IsSpent (λ A. Alike) (λ A. Alike)
alike_spent = record { before = alike_kept; after = alike_kept; spend_kept = λ h. spend_alike h; loop_kept = λ h g. loop_alike h g }

-- as many steps at most
same_calls_within : (p : List Class) (n : ℕ) (call : Call) → Alike (calls_within p n call) (calls_within p n call)
same_calls_within p zero call = no_rule_alike
same_calls_within p (suc n) call = call_kept (λ A. Alike) (λ A. Alike) alike_spent p (calls_within p n) (calls_within p n) (same_calls_within p n) call

-- at least as many
pub more_calls_within : (p : List Class) (n n' k : ℕ) → n' ≡ n + k → (call : Call) → Alike (calls_within p n call) (calls_within p n' call)
more_calls_within p zero n' k e call = stuck_alike _ (λ s n. after_of (same_calls_within p n' call) s n)
more_calls_within p (suc n) zero k e call = absurd (omega arith)
more_calls_within p (suc n) (suc n') k e call = call_kept (λ A. Alike) (λ A. Alike) alike_spent p (calls_within p n) (calls_within p n') (more_calls_within p n n' k (omega arith)) call

-- an evaluation with such calls
pub eval_alike : (p : List Class) (n n' k : ℕ) → n' ≡ n + k → (self : Value) (env : Environment) (t : Tree) → Alike (eval p (calls_within p n) self env t) (eval p (calls_within p n') self env t)
eval_alike p n n' k e self env t = eval_kept (λ A. Alike) (λ A. Alike) alike_spent p (calls_within p n) (calls_within p n') (more_calls_within p n n' k e) self env t
