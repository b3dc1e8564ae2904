-- `law_uses_told` holds by `uses_are_told` of `UsesTold.antt`. The marks of a typed feature (records of the occurrences of names) record each use of a variable
-- with its type, and the method of each call if `seen_type` finds the receiver's type.
use Rattle.cool_names.proofs.UsesTold.{uses_are_told}
use Rattle.cool_names.proofs.laws.law_uses_told.Goals as goal

pub returns : goal.returns
returns c = λ p whole lawful. uses_are_told p whole lawful
