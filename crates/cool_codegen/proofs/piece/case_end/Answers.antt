use Rattle.std.proofs.Common.{[], ◌∷◌}
use Rattle.cool_runtime.specs.Labels.{case_abort}
use Rattle.cool_codegen.specs.Pieces.{case_end_lines}
use Rattle.cool_codegen.proofs.piece.case_end.Goals as goal

pub returns : goal.returns
unfolding case_abort case_end_lines
returns c = λ i. c.j.ensures i ∷ c.label.ensures i ∷ c.addiu.ensures i ∷ []
