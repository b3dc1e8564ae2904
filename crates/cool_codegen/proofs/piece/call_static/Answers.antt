use Rattle.std.proofs.Common.{[], ◌∷◌}
use Rattle.cool_runtime.specs.Labels.{dispatch_abort}
use Rattle.cool_codegen.specs.Pieces.{call_static_lines}
use Rattle.cool_codegen.proofs.piece.call_static.Goals as goal

pub returns : goal.returns
unfolding dispatch_abort call_static_lines
returns c = λ i. c.la.ensures i ∷ c.li.ensures i ∷ c.bne.ensures i ∷ c.j.ensures i ∷ c.jal.ensures i ∷ []
