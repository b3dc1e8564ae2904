use Rattle.std.proofs.Common.{[], ◌∷◌}
use Rattle.cool_codegen.specs.Pieces.{turn_lines}
use Rattle.cool_codegen.proofs.piece.turn.Goals as goal

pub returns : goal.returns
unfolding turn_lines
returns c = λ i. c.j.ensures i ∷ c.label.ensures i ∷ []
