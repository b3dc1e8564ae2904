-- The receiver and the arguments of a dispatch have smaller node numbers than the dispatch, so they are nodes of the same body.
use Rattle.std.proofs.Common.{◌≡◌, ◌<◌, ℕ, List, [], ◌∷◌, arith}
use Rattle.std.specs.List.{AllByRecursion}
use Rattle.cool_syntax.specs.declared.node.Node.{Node}
use Rattle.cool_syntax.specs.declared.node.Node.TheVariants as node
use Rattle.cool_syntax.specs.declared.node.NodeId.{NodeId}
use Rattle.cool_syntax.specs.NodeGroups.{IsCall}
use Rattle.cool_syntax.specs.NodeLists.{HasPartsBelow}

all_below : (k m : ℕ) → k < m → (ids : List NodeId) → AllByRecursion (λ c. c.0 < k) ids → AllByRecursion (λ c. c.0 < m) ids
all_below k m less [] all = tt
all_below k m less (c ∷ ids) (first, all) = (omega arith, all_below k m less ids all)

-- numbers below that of a dispatch are below any number above it
pub parts_below : (k m : ℕ) → k < m → (n : Node) → IsCall n → HasPartsBelow k n → HasPartsBelow m n
parts_below k m less (node.Dispatch at a name ids) call (receiver, all) = (omega arith, all_below k m less ids all)
parts_below k m less (node.StaticDispatch at a class name ids) call (receiver, all) = (omega arith, all_below k m less ids all)
parts_below k m less _ call parts = absurd call
