-- `perform` makes the listing in the output format and of the files that its arguments ask for.
use Rattle.std.proofs.Common.{◌≡◌, ◌⊎◌, inl, inr, true, false, ◌∙◌}
use Rattle.std.specs.Prelude.{Some, None}
use Rattle.cool_sources.specs.CommandLine.{words_of}
use Rattle.cool_listings.specs.Processes.{call_asked, other_form}
use Rattle.cool_listings.specs.declared.form.Form.TheVariants.{Marks}
use Rattle.cool_listings.proofs.WordsAsked.{asked_by_call, asked_by_none, asked_so, call_read, ended_so}
use Rattle.cool_listings.proofs.process.perform.Goals.{then-call, else-call}
use Rattle.cool_listings.proofs.process.perform.Goals as goal

pub returns-after-call : goal.returns-after-call
returns-after-call g c =
    let words = words_of c.args.words.now in
    let chosen : ((c.in-Some.call.other ≡ true) × (c.if-call.form ≡ other_form words)) ⊎ ((c.in-Some.call.other ≡ false) × (c.if-call.form ≡ Marks)) =
    elim c.if-call.branch [
      | then-call w ↦ inl (w.if-call.true, w.form-is ∙ c.other_form-other.ensures)
      | else-call w ↦ inr (w.if-call.false, w.form-is)
    ] in
    let read = call_read words _ _ (Some c.in-Some.call) c.other_form-other.ensures c.option_of.ensures c.in-Some.ensures in
    let is = asked_by_call (other_form words) (call_asked words) c.in-Some.call c.if-call.form read chosen in
    let all = c.perform_over_system.ensures in
    record { ended = ended_so _ _ _ _ _ _ _ _ is.0 is.1 all.ended; asked = asked_so _ _ _ is.1 all.asked }

pub returns-in-None : goal.returns-in-None
returns-in-None g c =
    let words = words_of c.args.words.now in
    let read = call_read words _ _ None c.other_form-other.ensures c.option_of.ensures c.in-None.ensures in
    let is = asked_by_none (other_form words) (call_asked words) read in
    let all = c.perform_over_system-in-None.ensures in
    record { ended = ended_so _ _ _ _ _ _ _ _ is.0 is.1 all.ended; asked = asked_so _ _ _ is.1 all.asked }
