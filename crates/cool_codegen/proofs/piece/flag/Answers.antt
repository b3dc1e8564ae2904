use Rattle.std.proofs.Common.{[], ◌∷◌}
use Rattle.cool_runtime.specs.Labels.{false_constant, true_constant}
use Rattle.cool_codegen.specs.Pieces.{flag_lines}
use Rattle.cool_codegen.proofs.piece.flag.Goals as goal

pub returns : goal.returns
unfolding false_constant true_constant flag_lines
returns c = λ i. c.la.ensures i ∷ c.beq.ensures i ∷ c.j.ensures i ∷ c.la-2.ensures i ∷ c.label.ensures i ∷ []
