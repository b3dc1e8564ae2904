-- The loop of `add_folded` has added the folded expressions of the features before the current one, and the types of their nodes.
use Rattle.std.proofs.Common.{◌≡◌, ◌++◌, drop}
use Rattle.cool_classes.specs.Chains.{features_of}
use Rattle.cool_rules.specs.NodeTypes.{features_types}
use Rattle.cool_fold.specs.Expressions.{expressions_of}
use Rattle.cool_fold.specs.Folding.{fold_table}
use Rattle.cool_fold.proofs.program.add_folded.Given as goal

abbrev pub invariant-loop-feature : goal.invariant-loop-feature
invariant-loop-feature l = record {
  expressions : l.all.items ++ expressions_of l.class l.feature (drop l.feature (features_of (fold_table l.p) l.class))
      ≡ l.fn.all.items ++ expressions_of l.class 0 (features_of (fold_table l.p) l.class);
  types : l.columns.items ++ features_types (fold_table l.p) l.class (drop l.feature (features_of (fold_table l.p) l.class))
      ≡ features_types (fold_table l.p) l.class (features_of (fold_table l.p) l.class);
}
