use Rattle.std.proofs.Common.{[], ◌∷◌}
use Rattle.cool_codegen.specs.Pieces.{subtract_lines}
use Rattle.cool_codegen.proofs.piece.subtract.Goals as goal

pub returns : goal.returns
unfolding subtract_lines
returns c = λ i. c.subu.ensures i ∷ c.slt.ensures i ∷ c.slt-2.ensures i ∷ c.subu-2.ensures i ∷ []
