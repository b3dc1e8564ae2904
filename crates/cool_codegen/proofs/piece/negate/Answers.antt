use Rattle.std.proofs.Common.{[], ◌∷◌}
use Rattle.cool_codegen.specs.Pieces.{negate_lines}
use Rattle.cool_codegen.proofs.piece.negate.Goals as goal

pub returns : goal.returns
unfolding negate_lines
returns c = λ i. c.lw.ensures i ∷ c.subu.ensures i ∷ c.slt.ensures i ∷ c.slt-2.ensures i ∷ c.subu-2.ensures i ∷ []
