-- `law_program_uses_told` holds by `program_told` and `program_typed` of `ProgramUsesTold.antt`. The marks of a program (records of the occurrences of names)
-- record the uses in typed features, and all features of an accepted program are typed.
use Rattle.cool_names.proofs.ProgramUsesTold.{program_told, program_typed}
use Rattle.cool_names.proofs.laws.law_program_uses_told.Goals as goal

pub returns-clause-told : goal.returns-clause-told
returns-clause-told c = λ p whole lawful. program_told p whole lawful

pub returns-clause-typed : goal.returns-clause-typed
returns-clause-typed c = λ p typed. program_typed p typed
