-- The loop of `find_parents` has added the parents of the class definitions before the current one, and the compile-time errors in these parents.
use Rattle.std.proofs.Common.{◌≡◌, ◌++◌, ℕ, [], drop, take}
use Rattle.std.specs.List.{AllByRecursion}
use Rattle.cool_syntax.specs.declared.file_tree.ClassDef.{ClassDef}
use Rattle.cool_syntax.specs.TreesWithinLimits.{AreClassesWithin}
use Rattle.cool_classes.specs.ClassFaults.{parents_faults}
use Rattle.cool_classes.specs.Settled.{names_with_basic, parents_meant, IsParentKnown, AddsFaults}
use Rattle.cool_classes.proofs.class_phase.find_parents.Given as goal

abbrev pub invariant-loop-definition : goal.invariant-loop-definition
invariant-loop-definition l = record {
  parents : l.parents.items ≡ parents_meant (names_with_basic l.definitions) (take l.definition-index l.definitions);
  adds : AddsFaults (λ (n : ℕ). AreClassesWithin n l.definitions) l.fn.faults.items l.faults.items;
  exact : l.faults.items ++ parents_faults (names_with_basic l.definitions) (drop l.definition-index l.definitions) ≡ l.fn.faults.items ++ parents_faults (names_with_basic l.definitions) l.definitions;
  known : l.faults.items ≡ [] → AllByRecursion (λ (d : ClassDef). IsParentKnown (names_with_basic l.definitions) d.parent) (take l.definition-index l.definitions);
}
