use Rattle.std.proofs.Common.{[], ◌∷◌}
use Rattle.cool_codegen.specs.Pieces.{is_void_lines}
use Rattle.cool_codegen.proofs.piece.is_void.Goals as goal

pub returns : goal.returns
unfolding is_void_lines
returns c = λ i. c.sltiu.ensures i ∷ []
