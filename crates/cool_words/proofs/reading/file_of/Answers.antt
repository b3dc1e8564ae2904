use Rattle.std.proofs.Common.{◌∙◌, sym, ap, Some}
use Rattle.clap.specs.Words.{found_of}
use Rattle.cool_words.proofs.FoundValues.{name_found, name_missing, name_refused}
use Rattle.cool_words.proofs.reading.file_of.Goals as goal
use Rattle.cool_words.proofs.reading.file_of.Goals.{in_default-via-in-Some+else-is_file_name, in_default-via-in_default}

pub returns-in_ok-from_str-in-Some-clause-value : goal.returns-in_ok-from_str-in-Some-clause-value
returns-in_ok-from_str-in-Some-clause-value c =
    name_found (found_of c.args.matches.now) c.args.argument.now c.in-Some.name.now c.in-Some.ensures (sym c.is_file_name.ensures ∙ c.if-is_file_name.true)
    ∙ ap Some (sym c.in_ok-from_str-in-Some.ensures.ok)

pub returns-in_default-clause-value : goal.returns-in_default-clause-value
returns-in_default-clause-value c = λ _. elim c.in_default.branch [
  | in_default-via-in-Some+else-is_file_name w ↦ name_refused (found_of c.args.matches.now) c.args.argument.now w.in-Some.name.now w.in-Some.ensures (sym w.is_file_name.ensures ∙ w.if-is_file_name.false)
  | in_default-via-in_default w ↦ name_missing (found_of c.args.matches.now) c.args.argument.now w.in_default.ensures
]
