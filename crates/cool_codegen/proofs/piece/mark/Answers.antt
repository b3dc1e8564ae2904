use Rattle.std.proofs.Common.{[], ◌∷◌}
use Rattle.cool_codegen.specs.Pieces.{mark_lines}
use Rattle.cool_codegen.proofs.piece.mark.Goals as goal

pub returns : goal.returns
unfolding mark_lines
returns c = λ i. c.label.ensures i ∷ []
