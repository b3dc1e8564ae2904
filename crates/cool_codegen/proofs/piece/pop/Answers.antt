use Rattle.std.proofs.Common.{[], ◌∷◌}
use Rattle.cool_codegen.specs.Pieces.{pop_lines}
use Rattle.cool_codegen.proofs.piece.pop.Goals as goal

pub returns : goal.returns
unfolding pop_lines
returns c = λ i. c.addiu.ensures i ∷ []
