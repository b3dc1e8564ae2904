-- The loop of `feature_faults` has added the faults (compile-time errors) in the features of the classes before the current one.
use Rattle.std.proofs.Common.{◌≡◌, ◌+◌, ◌++◌, drop}
use Rattle.cool_classes.specs.ClassFaults.{features_from}
use Rattle.cool_classes.specs.Entries.{classes}
use Rattle.cool_classes.proofs.FeaturesChecked.{AreFaults}
use Rattle.cool_classes.proofs.feature_phase.feature_faults.Given as goal

abbrev pub invariant-loop-index : goal.invariant-loop-index
invariant-loop-index l = record {
  are : AreFaults l.table.entries.now l.places l.index l.faults.items;
  exact : l.faults.items ++ features_from (classes l.table.entries.now) (5 + l.index) (drop l.index l.places) ≡ features_from (classes l.table.entries.now) 5 l.places;
}
