-- In the loop of `write_features`, the tokens so far, followed by those of the features that are left, are the tokens of all features.
use Rattle.std.proofs.Common.{◌≡◌, ◌++◌, drop}
use Rattle.cool_syntax.specs.WrittenTrees.{written_features}
use Rattle.cool_expr.proofs.written_file.write_features.Given as goal

abbrev pub invariant-loop-feature : goal.invariant-loop-feature
invariant-loop-feature l = l.out ++ written_features (drop l.feature-index l.features) ≡ l.fn.out ++ written_features l.features
