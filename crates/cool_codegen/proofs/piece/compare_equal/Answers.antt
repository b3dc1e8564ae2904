use Rattle.std.proofs.Common.{[], ◌∷◌}
use Rattle.cool_runtime.specs.Labels.{equality}
use Rattle.cool_codegen.specs.Pieces.{compare_equal_lines}
use Rattle.cool_codegen.proofs.piece.compare_equal.Goals as goal

pub returns : goal.returns
unfolding equality compare_equal_lines
returns c = λ i. c.lw.ensures i ∷ c.addiu.ensures i ∷ c.copied.ensures i ∷ c.jal.ensures i ∷ []
