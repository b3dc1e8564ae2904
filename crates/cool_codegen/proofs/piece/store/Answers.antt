use Rattle.std.proofs.Common.{[], ◌∷◌, ap, ◌∙◌}
use Rattle.std.specs.Prelude.{ℤ}
use Rattle.std.proofs.lemmas.Int.{to_z-of_z}
use Rattle.cool_runtime.specs.Instructions.{sw}
use Rattle.cool_codegen.specs.Pieces.{store_lines}
use Rattle.cool_codegen.proofs.piece.store.Goals as goal

pub returns : goal.returns
unfolding store_lines
returns c = λ i. (c.sw.ensures ∙ ap (λ (z : ℤ). sw 4 z c.args.base) (to_z-of_z _ _ c.ranges.offset)) i ∷ []
