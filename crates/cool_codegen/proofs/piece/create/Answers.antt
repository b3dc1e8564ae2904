use Rattle.std.proofs.Common.{[], ◌∷◌}
use Rattle.cool_runtime.specs.Labels.{copy}
use Rattle.cool_codegen.specs.Pieces.{create_lines}
use Rattle.cool_codegen.proofs.piece.create.Goals as goal

pub returns : goal.returns
unfolding copy create_lines
returns c = λ i. c.la.ensures i ∷ c.jal.ensures i ∷ c.jal-2.ensures i ∷ []
