-- In the loop of `number_of`, the number of tokens before the place is at least `low` and at most `high`.
use Rattle.std.proofs.Common.{◌≤◌, ◌-◌, length}
use Rattle.cool_extents.specs.FoundExtents.{number_of}
use Rattle.cool_extents.proofs.finding.number_of.Given as goal

abbrev pub invariant-loop-low : goal.invariant-loop-low
invariant-loop-low l = (l.low ≤ number_of l.tokens l.at) × (number_of l.tokens l.at ≤ l.high) × (l.high ≤ length l.tokens)

abbrev pub decreases-loop-low : goal.decreases-loop-low
decreases-loop-low l = l.high - l.low
