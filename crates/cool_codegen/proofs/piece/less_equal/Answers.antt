use Rattle.std.proofs.Common.{[], ◌∷◌}
use Rattle.cool_codegen.specs.Pieces.{less_equal_lines}
use Rattle.cool_codegen.proofs.piece.less_equal.Goals as goal

pub returns : goal.returns
unfolding less_equal_lines
returns c = λ i. c.slt.ensures i ∷ c.sltiu.ensures i ∷ []
