use Rattle.std.proofs.Common.{[], ◌∷◌}
use Rattle.cool_codegen.specs.Pieces.{divide_lines}
use Rattle.cool_codegen.proofs.piece.divide.Goals as goal

pub returns : goal.returns
unfolding divide_lines
returns c = λ i. c.div.ensures i ∷ c.mflo.ensures i ∷ c.lui.ensures i ∷ c.addu.ensures i ∷ c.sltiu.ensures i ∷ c.addiu.ensures i ∷ c.sltu.ensures i ∷ c.sltu-2.ensures i ∷ []
