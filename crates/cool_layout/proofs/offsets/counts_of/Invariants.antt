-- The loop of `counts_of` has stored the numbers of attributes of the classes with tags below the current one.
use Rattle.std.proofs.Common.{◌≡◌, length}
use Rattle.cool_layout.specs.Offsets.{AreCounts}
use Rattle.cool_layout.proofs.offsets.counts_of.Given as goal

abbrev pub invariant-loop-tag : goal.invariant-loop-tag
invariant-loop-tag l = (length l.counts.items ≡ l.tag) × AreCounts l.t l.counts.items
