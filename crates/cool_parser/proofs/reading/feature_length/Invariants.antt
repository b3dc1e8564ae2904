use Rattle.std.proofs.Common.{◌≤◌}
use Rattle.cool_parser.proofs.reading.feature_length.Given as goal

abbrev pub invariant-loop-i : goal.invariant-loop-i
invariant-loop-i l = record { within : l.depth ≤ l.i }
