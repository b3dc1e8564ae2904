-- In the loop of `extents`, the extents (first and last token) so far, followed by those of the nodes that are left, are the extents of all nodes.
use Rattle.std.proofs.Common.{◌≡◌, drop}
use Rattle.cool_syntax.specs.NodeLists.{nodes}
use Rattle.cool_extents.specs.FoundExtents.{found_after, found_extents}
use Rattle.cool_extents.proofs.finding.extents.Given as goal

abbrev pub invariant-loop-number : goal.invariant-loop-number
invariant-loop-number l = found_after l.tokens l.found.items (drop l.number (nodes 0 l.body)) ≡ found_extents l.tokens l.body
