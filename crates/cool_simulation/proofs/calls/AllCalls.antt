-- The code of every method and every initializer simulates its call in the semantics. The proof is by induction on the number of steps, since calls within a
-- call have fewer steps.
use Rattle.std.proofs.Common.{ℕ, zero, suc, ◌<◌, subst, arith}
use Rattle.cool_syntax.specs.declared.file_tree.Feature.TheVariants.{Method, Attribute}
use Rattle.cool_syntax.specs.Tree.{Tree}
use Rattle.cool_syntax.specs.WrittenTrees.{IsWritable, IsValueWritable}
use Rattle.cool_meaning.specs.Evaluation.{calls_within}
use Rattle.cool_meaning.proofs.LongerEvaluation.{more_calls_within}
use Rattle.cool_meaning.proofs.MoreSteps.{after_of}
use Rattle.cool_meaning.proofs.SoundParts.{AllCallsSound}
use Rattle.cool_meaning.proofs.SoundRuns.{within_sound}
use Rattle.cool_simulation.specs.Loadings.{Loading, IsLoaded}
use Rattle.cool_simulation.specs.WrittenPrograms.{IsWritten}
use Rattle.cool_simulation.specs.Simulation.{Correct, CallsCorrect, AllCallsCorrect}
use Rattle.cool_simulation.proofs.ground.EvaluationLater.{CallsLater}
use Rattle.cool_simulation.proofs.forms.Forms.{form_correct}
use Rattle.cool_simulation.proofs.calls.Initializers.{initials_correct}
use Rattle.cool_simulation.proofs.calls.Methods.{body_correct}
use Rattle.cool_simulation.specs.Visits.{begun_within}

module _ (l : Loading) (loaded : IsLoaded l) (written : IsWritten l.table) where
  pub later_within : (n : ℕ) → CallsLater (calls_within l.table n)
  later_within n = λ call. record { later = λ s k. after_of (more_calls_within l.table n n 0 (omega arith) call) s k }

  pub calls_correct : (n m : ℕ) → m < n → CallsCorrect l (calls_within l.table n) (begun_within l.table n) m
  calls_correct zero m less = absurd (omega arith)
  calls_correct (suc n) m less =
      let calls = calls_within l.table n in
      let begun_in = begun_within l.table n in
      let later = later_within n in
      let sound : AllCallsSound l.table calls m = λ i few. within_sound l.table loaded.buildable.typed n i (omega arith) in
      let fewer : AllCallsCorrect l calls begun_in m = λ i few. calls_correct n i (omega arith) in
      let forms : (t : Tree) → IsWritable t → Correct l calls begun_in m t = form_correct l loaded calls begun_in m later sound fewer in
      record {
        body = body_correct l loaded calls begun_in m later IsWritable forms (λ c k def within there. written c k (Method def) within there);
        initials = initials_correct l loaded calls begun_in m later sound IsWritable forms (λ c k a t within there value. subst IsValueWritable value (written c k (Attribute a) within there));
      }

  -- as many calls as there are steps
  pub all_calls_correct : (n : ℕ) → AllCallsCorrect l (calls_within l.table n) (begun_within l.table n) n
  all_calls_correct n m less = calls_correct n m less
