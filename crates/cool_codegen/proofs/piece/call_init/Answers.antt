use Rattle.std.proofs.Common.{[], ◌∷◌}
use Rattle.cool_codegen.specs.Pieces.{call_init_lines}
use Rattle.cool_codegen.proofs.piece.call_init.Goals as goal

pub returns : goal.returns
unfolding call_init_lines
returns c = λ i. c.jal.ensures i ∷ []
