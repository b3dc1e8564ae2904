use Rattle.std.proofs.Common.{[], ◌∷◌, ap, ◌∙◌}
use Rattle.std.specs.Prelude.{ℤ}
use Rattle.std.proofs.lemmas.Int.{to_z-of_z}
use Rattle.cool_runtime.specs.Instructions.{addiu, sltiu}
use Rattle.cool_codegen.specs.Pieces.{try_tags_lines}
use Rattle.cool_codegen.proofs.piece.try_tags.Goals as goal

pub returns : goal.returns
unfolding try_tags_lines
returns c = λ i. (c.addiu.ensures ∙ ap (λ (z : ℤ). addiu 8 9 z) (to_z-of_z _ _ c.ranges.low)) i ∷ (c.sltiu.ensures ∙ ap (λ (z : ℤ). sltiu 8 8 z) (to_z-of_z _ _ c.ranges.count)) i ∷ c.bne.ensures i ∷ c.j.ensures i ∷ []
