-- In the loop of `check_class`, the results so far (type errors or types of nodes), followed by those of the remaining features, are all results. Each type
-- error is in one of the files if the features are.
use Rattle.std.proofs.Common.{◌≡◌, ℕ, [], ◌++◌, drop}
use Rattle.std.specs.List.{AllByRecursion}
use Rattle.cool_syntax.specs.TokenFacts.{IsPlaced}
use Rattle.cool_syntax.specs.TreesWithinLimits.{IsFeatureWithin}
use Rattle.cool_classes.specs.Chains.{features_of}
use Rattle.cool_rules.specs.NodeTypes.{features_types}
use Rattle.cool_check.specs.TypingFaults.{features_faults}
use Rattle.cool_check.proofs.checking.check_class.Given as goal

abbrev pub invariant-loop-index : goal.invariant-loop-index
invariant-loop-index l = record {
  faults : l.faults.items ++ features_faults l.t l.c (drop l.index (features_of l.t l.c)) ≡ l.fn.faults.items ++ features_faults l.t l.c (features_of l.t l.c);
  types : l.faults.items ≡ [] → l.types.items ++ features_types l.t l.c (drop l.index (features_of l.t l.c)) ≡ features_types l.t l.c (features_of l.t l.c);
  places : (n : ℕ) → AllByRecursion (IsFeatureWithin n) (features_of l.t l.c) → AllByRecursion (λ f. IsPlaced n f.at) l.fn.faults.items → AllByRecursion (λ f. IsPlaced n f.at) l.faults.items;
}
