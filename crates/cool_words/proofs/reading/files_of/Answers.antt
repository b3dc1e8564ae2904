use Rattle.std.proofs.Common.{◌∙◌, sym, ap, Some}
use Rattle.clap.specs.Walk.{texts}
use Rattle.clap.specs.Words.{found_of}
use Rattle.cool_words.proofs.FoundValues.{names_found, names_missing, names_refused}
use Rattle.cool_words.proofs.reading.files_of.Goals as goal
use Rattle.cool_words.proofs.reading.files_of.Goals.{in_default-via-in-Some+else-are_file_names, in_default-via-in_default}

pub returns-in_ok-copy_names-in-Some-clause-value : goal.returns-in_ok-copy_names-in-Some-clause-value
returns-in_ok-copy_names-in-Some-clause-value c =
    names_found (found_of c.args.matches.now) (texts c.in-Some.names.now) c.in-Some.ensures (sym c.are_file_names.ensures ∙ c.if-are_file_names.true)
    ∙ ap Some (sym c.in_ok-copy_names-in-Some.ensures)

pub returns-in_default-clause-value : goal.returns-in_default-clause-value
returns-in_default-clause-value c = λ _. elim c.in_default.branch [
  | in_default-via-in-Some+else-are_file_names w ↦
      names_refused (found_of c.args.matches.now) (texts w.in-Some.names.now) w.in-Some.ensures (sym w.are_file_names.ensures ∙ w.if-are_file_names.false)
  | in_default-via-in_default w ↦ names_missing (found_of c.args.matches.now) w.in_default.ensures
]
