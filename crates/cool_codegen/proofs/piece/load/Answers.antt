use Rattle.std.proofs.Common.{[], ◌∷◌, ap, ◌∙◌}
use Rattle.std.specs.Prelude.{ℤ}
use Rattle.std.proofs.lemmas.Int.{to_z-of_z}
use Rattle.cool_runtime.specs.Instructions.{lw}
use Rattle.cool_codegen.specs.Pieces.{load_lines}
use Rattle.cool_codegen.proofs.piece.load.Goals as goal

pub returns : goal.returns
unfolding load_lines
returns c = λ i. (c.lw.ensures ∙ ap (λ (z : ℤ). lw 4 z c.args.base) (to_z-of_z _ _ c.ranges.offset)) i ∷ []
