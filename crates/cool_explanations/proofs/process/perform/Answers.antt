-- `perform` explains the files that its arguments name, in the output format that they ask for.
use Rattle.std.proofs.Common.{◌≡◌, ◌⊎◌, inl, inr, true, false}
use Rattle.std.specs.Prelude.{codes}
use Rattle.cool_sources.specs.CommandLine.{call_of, words_of}
use Rattle.cool_explanations.specs.declared.form.Form.TheVariants.{Lines, Text}
use Rattle.cool_explanations.proofs.WordsAsked.{asked_so, call_asked, ended_so, none_asked}
use Rattle.cool_explanations.proofs.process.perform.Goals.{then-call, else-call}
use Rattle.cool_explanations.proofs.process.perform.Goals as goal

pub returns-after-call : goal.returns-after-call
returns-after-call g c =
    let chosen : ((c.in-Some.call.other ≡ true) × (c.if-call.form ≡ Lines)) ⊎ ((c.in-Some.call.other ≡ false) × (c.if-call.form ≡ Text)) =
    elim c.if-call.branch [
      | then-call w ↦ inl (w.if-call.true, w.form-is)
      | else-call w ↦ inr (w.if-call.false, w.form-is)
    ] in
    let is = call_asked (call_of (codes "--lines") (words_of c.args.words.now)) c.in-Some.call c.if-call.form c.in-Some.ensures chosen in
    let all = c.perform_over_system.ensures in
    record { ended = ended_so _ _ _ _ _ _ _ _ is.0 is.1 all.ended; asked = asked_so _ _ _ is.1 all.asked }

pub returns-in-None : goal.returns-in-None
returns-in-None g c =
    let is = none_asked (call_of (codes "--lines") (words_of c.args.words.now)) c.in-None.ensures in
    let all = c.perform_over_system-in-None.ensures in
    record { ended = ended_so _ _ _ _ _ _ _ _ is.0 is.1 all.ended; asked = asked_so _ _ _ is.1 all.asked }
