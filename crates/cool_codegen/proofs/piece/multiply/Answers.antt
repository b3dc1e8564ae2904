use Rattle.std.proofs.Common.{[], ◌∷◌}
use Rattle.cool_codegen.specs.Pieces.{multiply_lines}
use Rattle.cool_codegen.proofs.piece.multiply.Goals as goal

pub returns : goal.returns
unfolding multiply_lines
returns c = λ i. c.mult.ensures i ∷ c.mflo.ensures i ∷ c.mfhi.ensures i ∷ c.slt.ensures i ∷ c.addu.ensures i ∷ []
