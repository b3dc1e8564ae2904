use Rattle.cool_fold.proofs.FoldedPrograms.{folded_run}
use Rattle.cool_fold.proofs.laws.law_folded.Goals as goal

pub returns : goal.returns
returns c = folded_run
