use Rattle.std.proofs.Common.{[], ◌∷◌, ap, ◌∙◌}
use Rattle.std.specs.Prelude.{ℤ}
use Rattle.std.proofs.lemmas.Int.{to_z-of_z}
use Rattle.cool_runtime.specs.Instructions.{lw}
use Rattle.cool_runtime.specs.Labels.{dispatch_abort}
use Rattle.cool_codegen.specs.Pieces.{call_lines}
use Rattle.cool_codegen.proofs.piece.call.Goals as goal

pub returns : goal.returns
unfolding dispatch_abort call_lines
returns c = λ i. c.la.ensures i ∷ c.li.ensures i ∷ c.bne.ensures i ∷ c.j.ensures i ∷ c.lw.ensures i ∷ (c.lw-2.ensures ∙ ap (λ (z : ℤ). lw 8 z 8) (to_z-of_z _ _ c.ranges.offset)) i ∷ c.jalr.ensures i ∷ []
