use Rattle.cool_fold.proofs.FoldedTableFits.{folded_fits}
use Rattle.cool_fold.proofs.laws.law_folded_fits.Goals as goal

pub returns : goal.returns
returns c = record { fits = folded_fits }
