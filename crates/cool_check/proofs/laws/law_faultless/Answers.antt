use Rattle.cool_check.proofs.AcceptedTables.{typed_exactly}
use Rattle.cool_check.proofs.laws.law_faultless.Goals as goal

pub returns : goal.returns
returns c = λ p whole lawful. typed_exactly p whole lawful
