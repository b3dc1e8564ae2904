use Rattle.std.proofs.Common.{[], ◌∷◌, ap, ◌∙◌}
use Rattle.std.specs.Prelude.{ℤ}
use Rattle.std.proofs.lemmas.Int.{to_z-of_z}
use Rattle.cool_runtime.specs.Instructions.{addiu}
use Rattle.cool_codegen.specs.Pieces.{leave_lines}
use Rattle.cool_codegen.proofs.piece.leave.Goals as goal

pub returns : goal.returns
unfolding leave_lines
returns c = λ i. (c.addiu.ensures ∙ ap (λ (z : ℤ). addiu 29 30 z) (to_z-of_z _ _ c.ranges.taken)) i ∷ c.lw.ensures i ∷ c.lw-2.ensures i ∷ c.lw-3.ensures i ∷ c.jr.ensures i ∷ []
