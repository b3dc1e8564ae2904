use Rattle.std.proofs.Common.{[], ◌∷◌}
use Rattle.cool_codegen.specs.Pieces.{add_lines}
use Rattle.cool_codegen.proofs.piece.add.Goals as goal

pub returns : goal.returns
unfolding add_lines
returns c = λ i. c.addu.ensures i ∷ c.slt.ensures i ∷ c.slt-2.ensures i ∷ c.subu.ensures i ∷ []
