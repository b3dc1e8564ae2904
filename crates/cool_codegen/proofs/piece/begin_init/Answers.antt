use Rattle.std.proofs.Common.{[], ◌∷◌}
use Rattle.cool_codegen.specs.Pieces.{begin_init_lines}
use Rattle.cool_codegen.proofs.piece.begin_init.Goals as goal

pub returns : goal.returns
unfolding begin_init_lines
returns c = λ i. c.label.ensures i ∷ []
