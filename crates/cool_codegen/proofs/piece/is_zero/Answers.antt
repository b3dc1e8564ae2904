use Rattle.std.proofs.Common.{[], ◌∷◌}
use Rattle.cool_codegen.specs.Pieces.{is_zero_lines}
use Rattle.cool_codegen.proofs.piece.is_zero.Goals as goal

pub returns : goal.returns
unfolding is_zero_lines
returns c = λ i. c.sltiu.ensures i ∷ []
