use Rattle.cool_check.proofs.AcceptedTables.{checked_exactly}
use Rattle.cool_check.proofs.laws.law_typed_exactly.Goals as goal

pub returns : goal.returns
returns c = λ p whole lawful. checked_exactly p whole lawful
