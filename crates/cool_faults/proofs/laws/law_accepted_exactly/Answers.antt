use Rattle.cool_faults.proofs.AcceptedFiles.{accepted_list}
use Rattle.cool_faults.proofs.AlwaysOneVerdict.{accepted_where_faultless}
use Rattle.cool_faults.proofs.laws.law_accepted_exactly.Goals as goal

pub returns : goal.returns
returns c = record { faultless = accepted_list; accepted = accepted_where_faultless }
