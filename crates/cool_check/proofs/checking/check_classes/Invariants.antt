-- In the loop of `check_classes`, the results so far (type errors or types of nodes), followed by those of the remaining classes, are all results. Each type
-- error is in one of the files if the features are.
use Rattle.std.proofs.Common.{◌≡◌, ℕ, [], ◌++◌, drop}
use Rattle.std.specs.List.{AllByRecursion}
use Rattle.cool_syntax.specs.TokenFacts.{IsPlaced}
use Rattle.cool_check.specs.Faults.{AreWithin}
use Rattle.cool_rules.specs.NodeTypes.{classes_types, columns_of, table_types}
use Rattle.cool_check.specs.TypingFaults.{classes_faults, typing_faults}
use Rattle.cool_check.proofs.checking.check_classes.Given as goal

abbrev pub invariant-loop-number : goal.invariant-loop-number
invariant-loop-number l = record {
  faults : l.faults.items ++ classes_faults l.t l.number (drop l.number l.t) ≡ typing_faults l.t;
  types : l.faults.items ≡ [] → columns_of l.types.items ++ classes_types l.t l.number (drop l.number l.t) ≡ table_types l.t;
  places : (n : ℕ) → AreWithin n l.t → AllByRecursion (λ f. IsPlaced n f.at) l.faults.items;
}
