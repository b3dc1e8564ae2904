-- `law_seen_type` holds by `seen_rightly` of `SeenTypes.antt`: if the typing rules give an expression a type, the type that `seen_type` computes from its form
-- is the same, or there is none.
use Rattle.cool_names.proofs.SeenTypes.{seen_rightly}
use Rattle.cool_names.proofs.laws.law_seen_type.Goals as goal

pub returns : goal.returns
returns c = λ p whole. seen_rightly p whole
