use Rattle.std.proofs.{Common.{List, length, sym, ◌∙◌, subst}, lemmas.List.{length-map}}
use Rattle.cool_faults.specs.{declared.fault.Fault.{Fault}, Verdicts.{IsRefused}}
use Rattle.cool_words.specs.Plans.{words_of}
use Rattle.cool_driver.specs.{Contents.{texts}, Refusals.{AreLinesOf}}
use Rattle.cool_driver.proofs.{LinesOfNotes.{have_names}, RefusalsTold.{faults_lined, faults_told}}
use Rattle.cool_driver.proofs.sources.accept_sources.Goals as goal

-- each fault stands in a file that has a name
pub refuse_for_faults-requires : goal.refuse_for_faults-requires
refuse_for_faults-requires c =
    let refused : IsRefused (texts c.args.contents.now) c.in-Refused.faults = rw c.in-Refused.is at c.in_ok-program.ensures.verdict in
    rw c.as_slice.ensures (have_names (length c.args.names.now) (texts c.args.contents.now) c.in-Refused.faults refused c.requires.sources.some
    (length-map c.args.contents.now (λ file. file.items) ∙ sym c.requires.sources.each))

-- files with faults
pub returns-in-Refused-clause-refused : goal.returns-in-Refused-clause-refused
returns-in-Refused-clause-refused c =
    let refused : IsRefused (texts c.args.contents.now) c.in-Refused.faults = rw c.in-Refused.is at c.in_ok-program.ensures.verdict in
    faults_told (words_of c.args.names.now) (texts c.args.contents.now) c.in-Refused.faults c.refuse_for_faults.result refused
    (subst (λ (fs : List Fault). AreLinesOf (words_of c.args.names.now) fs c.refuse_for_faults.result) c.as_slice.ensures c.refuse_for_faults.ensures)

pub returns-in-Refused-clause-lined : goal.returns-in-Refused-clause-lined
returns-in-Refused-clause-lined c shelf read =
    let refused : IsRefused (texts c.args.contents.now) c.in-Refused.faults = rw c.in-Refused.is at c.in_ok-program.ensures.verdict in
    faults_lined (words_of c.args.names.now) (texts c.args.contents.now) shelf c.in-Refused.faults c.refuse_for_faults.result read refused
    (subst (λ (fs : List Fault). AreLinesOf (words_of c.args.names.now) fs c.refuse_for_faults.result) c.as_slice.ensures c.refuse_for_faults.ensures)
