-- In the loop of `body_text`, the text so far, followed by the lines of the nodes that are left, is the text of all nodes.
use Rattle.std.proofs.Common.{◌≡◌, ◌++◌, drop}
use Rattle.cool_syntax.specs.NodeLists.{nodes}
use Rattle.cool_extents.specs.FoundExtents.{found_extents}
use Rattle.cool_listings.specs.Columns.{column_seen}
use Rattle.cool_listings.specs.TreeLines.{body_text, nodes_text}
use Rattle.cool_listings.proofs.trees.body_text.Given as goal

abbrev pub invariant-loop-number : goal.invariant-loop-number
invariant-loop-number l =
    l.text.items ++ nodes_text (column_seen l.column) (found_extents l.tokens l.body) l.number (drop l.number (nodes 0 l.body)) ≡ body_text (column_seen l.column) (found_extents l.tokens) l.body
