use Rattle.std.proofs.Common.{[], ◌∷◌}
use Rattle.cool_codegen.specs.Pieces.{complement_lines}
use Rattle.cool_codegen.proofs.piece.complement.Goals as goal

pub returns : goal.returns
unfolding complement_lines
returns c = λ i. c.lw.ensures i ∷ c.sltiu.ensures i ∷ []
