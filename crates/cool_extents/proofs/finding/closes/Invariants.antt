-- In the loop of `closes`, which counts the closing parentheses that a list of tokens begins with, the count so far and those that are left make the whole
-- count.
use Rattle.std.proofs.Common.{◌≡◌, ◌+◌, drop}
use Rattle.cool_extents.specs.FoundExtents.{closes}
use Rattle.cool_extents.proofs.finding.closes.Given as goal

abbrev pub invariant-loop-token : goal.invariant-loop-token
invariant-loop-token l = (l.count ≡ l.token-index) × (l.count + closes (drop l.token-index l.tokens) ≡ closes l.tokens)
