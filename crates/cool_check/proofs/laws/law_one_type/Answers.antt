use Rattle.cool_check.proofs.OneType.{one_type}
use Rattle.cool_check.proofs.laws.law_one_type.Goals as goal

pub returns : goal.returns
returns c = λ p whole. one_type p whole
