-- `files_answer` returns the explanations and warnings that `explain` finds for the files, as text in the chosen output format.
use Rattle.std.proofs.Common.{List, refl, subst}
use Rattle.cool_mend.specs.declared.explanation.Explanation.{Explanation}
use Rattle.cool_explanations.specs.Ends.{HasFaults}
use Rattle.cool_explanations.proofs.explaining.files_answer.Goals as goal

pub returns : goal.returns
returns c = record {
  told = c.in_ok-told.told;
  is = record { explained = c.in_ok-told.ensures.explained; after = c.in_ok-told.ensures.after; noticed = c.in_ok-told.ensures.noticed; quiet = c.in_ok-told.ensures.quiet };
  faults = subst (λ (all : List Explanation). HasFaults c.has_faults.result all) c.deref.ensures.value c.has_faults.ensures;
  text = c.in_ok-form_text.ensures;
  no_note = refl;
}
