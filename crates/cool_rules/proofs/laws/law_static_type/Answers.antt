use Rattle.cool_rules.proofs.StaticTypesAreGiven.{type_is}
use Rattle.cool_rules.proofs.laws.law_static_type.Goals as goal

pub returns : goal.returns
returns c = λ p whole k scope e type within types has. type_is p whole k within e scope type types has
