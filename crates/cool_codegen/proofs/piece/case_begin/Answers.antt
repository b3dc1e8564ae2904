use Rattle.std.proofs.Common.{[], ◌∷◌}
use Rattle.cool_runtime.specs.RoutineLabels.{case_void}
use Rattle.cool_codegen.specs.Pieces.{case_begin_lines}
use Rattle.cool_codegen.proofs.piece.case_begin.Goals as goal

pub returns : goal.returns
unfolding case_void case_begin_lines
returns c = λ i. c.la.ensures i ∷ c.li.ensures i ∷ c.bne.ensures i ∷ c.j.ensures i ∷ c.lw.ensures i ∷ []
