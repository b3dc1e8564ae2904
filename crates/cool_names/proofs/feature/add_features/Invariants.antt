-- The loop of `add_features` has added the marks (records of the occurrences of names) in the features before the current one.
use Rattle.std.proofs.Common.{◌≡◌, ◌++◌, drop}
use Rattle.cool_names.specs.Programs.{class_context, features_marks}
use Rattle.cool_names.proofs.feature.add_features.Given as goal

abbrev pub invariant-loop-feature : goal.invariant-loop-feature
invariant-loop-feature l =
    l.marks.items ++ features_marks (class_context l.program.table.now l.program.definitions.now l.fn.class) (drop l.feature-index l.features)
    ≡ l.fn.marks.items ++ features_marks (class_context l.program.table.now l.program.definitions.now l.fn.class) l.features
