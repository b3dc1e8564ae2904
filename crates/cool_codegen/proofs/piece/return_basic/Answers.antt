use Rattle.std.proofs.Common.{[], ◌∷◌}
use Rattle.cool_codegen.specs.Pieces.{return_basic_lines}
use Rattle.cool_codegen.proofs.piece.return_basic.Goals as goal

pub returns : goal.returns
unfolding return_basic_lines
returns c = λ i. c.label.ensures i ∷ c.jr.ensures i ∷ []
