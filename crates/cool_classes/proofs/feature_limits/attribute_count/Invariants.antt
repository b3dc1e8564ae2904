-- The loop of `attribute_count` has counted the attributes before the current feature.
use Rattle.std.proofs.Common.{◌≡◌, ◌+◌, ◌≤◌, length, drop}
use Rattle.cool_classes.specs.declared.class_id.ClassId.{ClassId}
use Rattle.cool_classes.specs.Features.{own_attributes}
use Rattle.cool_classes.proofs.feature_limits.attribute_count.Given as goal

abbrev pub invariant-loop-index : goal.invariant-loop-index
invariant-loop-index l = record {
  counted : (c : ClassId) → l.count + length (own_attributes c l.index (drop l.index l.features)) ≡ length (own_attributes c 0 l.features);
  below : l.count ≤ l.index;
}
