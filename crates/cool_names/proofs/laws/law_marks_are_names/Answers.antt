-- `law_marks_are_names` holds by `file_names` and `program_names` of `NamesMarked.antt`: a mark (record of a name's occurrence) is at each identifier of a text
-- and nowhere else.
use Rattle.cool_names.proofs.NamesMarked.{file_names, program_names}
use Rattle.cool_names.proofs.laws.law_marks_are_names.Goals as goal

pub returns-clause-file : goal.returns-clause-file
returns-clause-file c = file_names

pub returns-clause-program : goal.returns-clause-program
returns-clause-program c = program_names
