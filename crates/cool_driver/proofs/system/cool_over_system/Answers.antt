use Rattle.std.proofs.Common.{◌≡◌, ℕ, subst}
use Rattle.std.specs.Prelude.{Option, Some}
use Rattle.cool_words.specs.{Plans.{Asked, RunAsked}, Plans.Asked.{run}}
use Rattle.cool_driver.specs.{Calls.{Call}, CommandLine.{asked_for}, Ends.{Ends, EndsBy}, commands.Run.{RunEnds}}
use Rattle.cool_driver.proofs.system.cool_over_system.Goals as goal

-- a call that is asked for `run` ends as that
run_ends : (c : Call) (status : ℕ) (asked : RunAsked) → Ends c status
    → asked_for c.request.words ≡ Some (run asked) → RunEnds asked c status
run_ends c status asked ends asks = subst (λ (a : Option Asked). EndsBy a c status) asks ends.ends

-- the headline, where neither a read nor a write failed
pub returns : goal.returns
returns g c = record {
  asked = c.cool.ensures.asked;
  ends = c.cool.ensures.ends;
  ran = λ asked contents p given rest asks known is are leaves seven eight nine.
      let ends = run_ends _ _ asked (c.cool.ensures.ends given rest leaves) asks in
      let accords = (ends.headline contents p known is are nine).accords seven eight in
      (accords.0, accords.1.0, accords.2);
}
