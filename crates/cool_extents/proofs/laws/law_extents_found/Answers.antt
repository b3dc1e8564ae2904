use Rattle.cool_extents.proofs.ExtentsFound.{extents_found}
use Rattle.cool_extents.proofs.laws.law_extents_found.Goals as goal

pub returns : goal.returns
returns c = extents_found
