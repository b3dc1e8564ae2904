use Rattle.std.proofs.Common.{[], ◌∷◌}
use Rattle.cool_codegen.specs.Pieces.{take_self_lines}
use Rattle.cool_codegen.proofs.piece.take_self.Goals as goal

pub returns : goal.returns
unfolding take_self_lines
returns c = λ i. c.copied.ensures i ∷ []
