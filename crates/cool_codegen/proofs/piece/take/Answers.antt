use Rattle.std.proofs.Common.{[], ◌∷◌}
use Rattle.cool_codegen.specs.Pieces.{take_lines}
use Rattle.cool_codegen.proofs.piece.take.Goals as goal

pub returns : goal.returns
unfolding take_lines
returns c = λ i. c.la.ensures i ∷ []
