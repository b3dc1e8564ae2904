-- In the loop of `opens_before`, which counts the opening parentheses right before a token, those passed so far and those before them make the whole count.
use Rattle.std.proofs.Common.{◌≡◌, ◌≤◌, ◌+◌}
use Rattle.cool_extents.specs.FoundExtents.{opens_before}
use Rattle.cool_extents.proofs.finding.opens_before.Given as goal

abbrev pub invariant-loop-first : goal.invariant-loop-first
invariant-loop-first l = (l.first ≤ l.number) × (opens_before l.tokens l.number + l.first ≡ l.number + opens_before l.tokens l.first)

abbrev pub decreases-loop-first : goal.decreases-loop-first
decreases-loop-first l = l.first
