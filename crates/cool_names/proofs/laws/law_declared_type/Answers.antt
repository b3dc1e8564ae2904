-- `law_declared_type` holds by `declared_rightly` of `SeenTypes.antt`: the mark at an occurrence of a variable names the type that the typing rules give the
-- variable.
use Rattle.cool_names.proofs.SeenTypes.{declared_rightly}
use Rattle.cool_names.proofs.laws.law_declared_type.Goals as goal

pub returns : goal.returns
returns c = λ p. declared_rightly p
