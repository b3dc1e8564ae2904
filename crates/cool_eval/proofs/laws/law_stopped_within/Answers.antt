use Rattle.cool_eval.proofs.PartsOfRuns.{part_of_reading, part_of_writing, part_of_last_line, part_of_short}
use Rattle.cool_eval.proofs.laws.law_stopped_within.Goals as goal

pub returns : goal.returns
returns c = record { reading = part_of_reading; writing = part_of_writing; last_line = part_of_last_line; memory = part_of_short }
