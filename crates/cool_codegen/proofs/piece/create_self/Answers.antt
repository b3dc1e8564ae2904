use Rattle.std.proofs.Common.{[], ◌∷◌}
use Rattle.cool_runtime.specs.Labels.{copy}
use Rattle.cool_runtime.specs.RoutineLabels.{class_objects}
use Rattle.cool_codegen.specs.Pieces.{create_self_lines}
use Rattle.cool_codegen.proofs.piece.create_self.Goals as goal

pub returns : goal.returns
unfolding copy class_objects create_self_lines
returns c = λ i. c.lw.ensures i ∷ c.sll.ensures i ∷ c.la.ensures i ∷ c.addu.ensures i ∷ c.lw-2.ensures i ∷ c.jal.ensures i ∷ c.lw-3.ensures i ∷ c.sll-2.ensures i ∷ c.la-2.ensures i ∷ c.addu-2.ensures i ∷ c.lw-4.ensures i ∷ c.jalr.ensures i ∷ []
