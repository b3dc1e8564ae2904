-- The loop of `own_count` has counted the attributes before the current feature.
use Rattle.std.proofs.Common.{◌≡◌, ◌≤◌, take}
use Rattle.cool_layout.specs.Offsets.{attribute_count}
use Rattle.cool_layout.proofs.offsets.own_count.Given as goal

abbrev pub invariant-loop-index : goal.invariant-loop-index
invariant-loop-index l = (l.count ≡ attribute_count (take l.index l.features)) × (l.count ≤ l.index)
