-- While the value places of a body are collected, some expressions, given by node numbers, are still to be visited. `places_at` gives the value places of
-- one, and `size_left` counts the nodes of all.
use Rattle.std.specs.Prelude.{ℕ, ◌+◌, ◌-◌, ◌<◌, List, [], ◌∷◌, length, drop}
use Rattle.std.specs.List.{AllByRecursion}
use Rattle.cool_syntax.specs.declared.node.NodeId.{NodeId}
use Rattle.cool_syntax.specs.declared.place.Place.{Place}
use Rattle.cool_syntax.specs.NodeLists.{tree_at}
use Rattle.cool_syntax.specs.Tree.{Tree, tree_size}
use Rattle.cool_notices.specs.ValuePlaces.{value_places}

-- the value places of the expression of this number
abbrev pub places_at : Tree → NodeId → List Place
places_at body id = value_places (tree_at body id)

-- the numbers are those of nodes of the body
abbrev pub AreIn : Tree → List NodeId → Type 0
AreIn body ids = AllByRecursion (λ id. id.0 < tree_size body) ids

-- how many nodes the expressions have together
abbrev pub size_left : Tree → List NodeId → ℕ
size_left body [] = 0
size_left body (id ∷ ids) = tree_size (tree_at body id) + size_left body ids

-- the last item, or none
abbrev pub last_of : List NodeId → List NodeId
last_of ids = drop (length ids - 1) ids
