use Rattle.cool_emit.proofs.RowsStanding.{rows_stand}
use Rattle.cool_emit.proofs.laws.law_rows_stand.Goals as goal

pub returns : goal.returns
returns c = rows_stand
