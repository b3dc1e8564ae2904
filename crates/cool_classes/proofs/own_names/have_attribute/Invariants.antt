-- The loop of `have_attribute` has not found the attribute yet: the classes from the current one on give the same answer as all of them.
use Rattle.std.proofs.Common.{◌≡◌, ◌<◌, length, drop}
use Rattle.std.specs.List.{AllByRecursion}
use Rattle.cool_classes.specs.FeatureFaults.{have_attribute}
use Rattle.cool_classes.specs.Entries.{classes}
use Rattle.cool_classes.proofs.own_names.have_attribute.Given as goal

abbrev pub invariant-loop-index : goal.invariant-loop-index
invariant-loop-index l = record {
  have : have_attribute (classes l.table.entries.now) (drop l.index l.above) l.name ≡ have_attribute (classes l.table.entries.now) l.above l.name;
  within : AllByRecursion (λ c. c.0 < length l.table.entries.now) (drop l.index l.above);
}
