-- In each call of a method or initializer, the machine reaches the code of each expression that evaluation begins (`Shown`). The proof is by induction on the
-- number of steps.
use Rattle.std.proofs.Common.{ℕ, zero, suc, ◌<◌, subst, arith, ◌≡◌, None}
use Rattle.cool_syntax.specs.declared.file_tree.Feature.TheVariants.{Method, Attribute}
use Rattle.cool_syntax.specs.Tree.{Tree}
use Rattle.cool_syntax.specs.WrittenTrees.{IsWritable, IsValueWritable}
use Rattle.cool_meaning.specs.Evaluation.{calls_within}
use Rattle.cool_meaning.proofs.SoundParts.{AllCallsSound}
use Rattle.cool_meaning.proofs.SoundRuns.{within_sound}
use Rattle.cool_simulation.specs.Loadings.{Loading, IsLoaded}
use Rattle.cool_simulation.specs.WrittenPrograms.{IsWritten}
use Rattle.cool_simulation.specs.Simulation.{AllCallsCorrect, Correct}
use Rattle.cool_simulation.specs.Shown.{AllCallsShown, AllShown, CallsShown}
use Rattle.cool_simulation.specs.Visits.{begun_within}
use Rattle.cool_simulation.proofs.calls.AllCalls.{calls_correct, later_within}
use Rattle.cool_simulation.proofs.forms.Forms.{form_correct}
use Rattle.cool_simulation.proofs.shown.Bodies.{body_shown}
use Rattle.cool_simulation.proofs.shown.Forms.{form_shown}
use Rattle.cool_simulation.proofs.shown.Initializers.{initials_shown}

module _ (l : Loading) (loaded : IsLoaded l) (none : l.watch ≡ None) (written : IsWritten l.table) where
  pub calls_shown : (n m : ℕ) → m < n → CallsShown l (calls_within l.table n) (begun_within l.table n) m
  calls_shown zero m less = absurd (omega arith)
  calls_shown (suc n) m less =
      let calls = calls_within l.table n in
      let begun_in = begun_within l.table n in
      let later = later_within l loaded written n in
      let sound : AllCallsSound l.table calls m = λ i few. within_sound l.table loaded.buildable.typed n i (omega arith) in
      let fewer : AllCallsCorrect l calls begun_in m = λ i few. calls_correct l loaded written n i (omega arith) in
      let fewer_shown : AllCallsShown l calls begun_in m = λ i few. calls_shown n i (omega arith) in
      let forms : (t : Tree) → IsWritable t → Correct l calls begun_in m t = form_correct l loaded calls begun_in m later sound fewer in
      let shown : (t : Tree) → IsWritable t → AllShown l calls begun_in m t = form_shown l loaded none calls begun_in m later sound fewer fewer_shown in
      record {
        body = body_shown l loaded none calls begun_in m later IsWritable forms shown (λ c k def within there. written c k (Method def) within there);
        initials = initials_shown l loaded none calls begun_in m later sound IsWritable forms shown (λ c k a t within there value. subst IsValueWritable value (written c k (Attribute a) within there));
      }

  -- as many calls as there are steps
  pub all_calls_shown : (n : ℕ) → AllCallsShown l (calls_within l.table n) (begun_within l.table n) n
  all_calls_shown n m less = calls_shown n m less
