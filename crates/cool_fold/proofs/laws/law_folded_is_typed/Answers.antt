use Rattle.cool_fold.proofs.FoldedTableIsTyped.{folded_typed}
use Rattle.cool_fold.proofs.FoldedTables.{folded_alike}
use Rattle.cool_fold.proofs.laws.law_folded_is_typed.Goals as goal

pub returns : goal.returns
returns c = record { typed = folded_typed; declared = folded_alike }
