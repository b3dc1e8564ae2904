use Rattle.cool_faults.proofs.RowsOfFiles.{list_has_rows}
use Rattle.cool_faults.proofs.laws.law_rows.Goals as goal

pub returns : goal.returns
returns c = list_has_rows
