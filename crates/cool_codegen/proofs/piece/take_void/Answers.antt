use Rattle.std.proofs.Common.{[], ◌∷◌}
use Rattle.cool_codegen.specs.Pieces.{take_void_lines}
use Rattle.cool_codegen.proofs.piece.take_void.Goals as goal

pub returns : goal.returns
unfolding take_void_lines
returns c = λ i. c.copied.ensures i ∷ []
