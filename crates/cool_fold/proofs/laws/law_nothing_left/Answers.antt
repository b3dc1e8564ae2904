use Rattle.cool_fold.proofs.FoldedTableIsTyped.{nothing_left}
use Rattle.cool_fold.proofs.laws.law_nothing_left.Goals as goal

pub returns : goal.returns
returns c = record { done = nothing_left }
