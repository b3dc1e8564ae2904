-- In the loop of `value_places`, the places from the expressions still to be visited, followed by the places collected so far, are all places. The number
-- of nodes of these expressions decreases.
use Rattle.std.proofs.Common.{◌≡◌, ◌++◌}
use Rattle.std.specs.List.{flat_map}
use Rattle.std.specs.Prelude.{reverse}
use Rattle.cool_notices.specs.ValuesLeft.{AreIn, places_at, size_left}
use Rattle.cool_notices.proofs.values.value_places.Given as goal

abbrev pub invariant-loop-next : goal.invariant-loop-next
invariant-loop-next l = record {
  left : AreIn l.body l.left.items;
  places : flat_map (places_at l.body) l.left.items ++ reverse l.all.items ≡ places_at l.body l.fn.id;
}

abbrev pub decreases-loop-next : goal.decreases-loop-next
decreases-loop-next l = size_left l.body l.left.items
