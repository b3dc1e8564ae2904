-- The loop of `own_offsets` has added the offsets of the features before the current one, and counted the attributes among them.
use Rattle.std.proofs.Common.{◌≡◌, ◌+◌, take}
use Rattle.cool_layout.specs.Offsets.{offsets_among, attribute_count}
use Rattle.cool_layout.proofs.offsets.own_offsets.Given as goal

abbrev pub invariant-loop-index : goal.invariant-loop-index
invariant-loop-index l =
    (l.offsets.items ≡ offsets_among l.fn.above (take l.index l.features)) × (l.count ≡ l.fn.above + attribute_count (take l.index l.features))
