-- `node_place` returns the place of a node, which is that of the tree of this node, whatever its parts are.
use Rattle.std.proofs.Common.{[]}
use Rattle.cool_listings.proofs.trees.node_place.Goals as goal

pub returns : goal.returns
returns c = c.place.ensures []
