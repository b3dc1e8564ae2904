use Rattle.std.proofs.Common.{[], ◌∷◌}
use Rattle.cool_codegen.specs.Pieces.{less_lines}
use Rattle.cool_codegen.proofs.piece.less.Goals as goal

pub returns : goal.returns
unfolding less_lines
returns c = λ i. c.slt.ensures i ∷ []
