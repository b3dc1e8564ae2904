use Rattle.std.proofs.Common.{[], ◌∷◌}
use Rattle.cool_codegen.specs.Pieces.{values_lines}
use Rattle.cool_codegen.proofs.piece.values.Goals as goal

pub returns : goal.returns
unfolding values_lines
returns c = λ i. c.lw.ensures i ∷ c.addiu.ensures i ∷ c.lw-2.ensures i ∷ c.lw-3.ensures i ∷ []
