use Rattle.std.proofs.Common.{[], ◌∷◌}
use Rattle.cool_codegen.specs.Pieces.{ends_where_lines}
use Rattle.cool_codegen.proofs.piece.ends_where.Goals as goal

pub returns : goal.returns
unfolding ends_where_lines
returns c = λ i. c.bne.ensures i ∷ c.j.ensures i ∷ c.la.ensures i ∷ c.li.ensures i ∷ c.j-2.ensures i ∷ c.label.ensures i ∷ []
