use Rattle.std.proofs.Common.{[], ◌∷◌}
use Rattle.cool_codegen.specs.Pieces.{test_lines}
use Rattle.cool_codegen.proofs.piece.test.Goals as goal

pub returns : goal.returns
unfolding test_lines
returns c = λ i. c.lw.ensures i ∷ c.bne.ensures i ∷ c.j.ensures i ∷ []
