-- The loop of `new_method_count` has counted the methods before the current feature that have a name which is new in the class.
use Rattle.std.proofs.Common.{◌≡◌, ◌+◌, ◌≤◌, length, drop}
use Rattle.cool_classes.specs.Entries.{classes}
use Rattle.cool_classes.specs.MethodNames.{new_among}
use Rattle.cool_classes.proofs.feature_limits.new_method_count.Given as goal

abbrev pub invariant-loop-index : goal.invariant-loop-index
invariant-loop-index l = record {
  counted : l.count + length (new_among (classes l.table.entries.now) l.lineage.above.items l.features l.index (drop l.index l.features)) ≡ length (new_among (classes l.table.entries.now) l.lineage.above.items l.features 0 l.features);
  below : l.count ≤ l.index;
}
