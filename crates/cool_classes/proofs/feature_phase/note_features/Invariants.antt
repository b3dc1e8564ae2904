-- The loop of `note_features` has added the faults (compile-time errors) of the features before the current one.
use Rattle.std.proofs.Common.{◌≡◌, ◌++◌, drop}
use Rattle.cool_classes.specs.Entries.{classes}
use Rattle.cool_classes.specs.FeatureFaults.{features_faults}
use Rattle.cool_classes.proofs.feature_phase.note_features.Given as goal

abbrev pub invariant-loop-index : goal.invariant-loop-index
invariant-loop-index l =
    l.faults.items ++ features_faults (classes l.table.entries.now) l.lineage.class l.lineage.above.items l.index (drop l.index l.features)
    ≡ l.fn.faults.items ++ features_faults (classes l.table.entries.now) l.lineage.class l.lineage.above.items 0 l.features
