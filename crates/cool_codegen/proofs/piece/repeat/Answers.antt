use Rattle.std.proofs.Common.{[], ◌∷◌}
use Rattle.cool_codegen.specs.Pieces.{repeat_lines}
use Rattle.cool_codegen.proofs.piece.repeat.Goals as goal

pub returns : goal.returns
unfolding repeat_lines
returns c = λ i. c.j.ensures i ∷ c.label.ensures i ∷ c.copied.ensures i ∷ []
