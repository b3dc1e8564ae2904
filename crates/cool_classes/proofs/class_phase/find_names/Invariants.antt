-- The loop of `find_names` has added the names of the class definitions before the current one, and the compile-time errors in these names.
use Rattle.std.proofs.Common.{◌≡◌, ◌++◌, ℕ, [], drop, take}
use Rattle.cool_syntax.specs.TreesWithinLimits.{AreClassesWithin}
use Rattle.cool_classes.specs.ClassFaults.{names_faults}
use Rattle.cool_classes.specs.FirstNames.{FindsNames}
use Rattle.cool_classes.specs.Settled.{basic_names, names_in, AreNamedAnew, AddsFaults}
use Rattle.cool_classes.proofs.class_phase.find_names.Given as goal

abbrev pub invariant-loop-index : goal.invariant-loop-index
invariant-loop-index l = record {
  finds : FindsNames l.names.entries (basic_names ++ take l.index (names_in l.definitions));
  adds : AddsFaults (λ (n : ℕ). AreClassesWithin n l.definitions) l.fn.faults.items l.faults.items;
  exact : l.faults.items ++ names_faults (basic_names ++ take l.index (names_in l.definitions)) (drop l.index l.definitions) ≡ l.fn.faults.items ++ names_faults basic_names l.definitions;
  anew : l.faults.items ≡ [] → AreNamedAnew l.definitions l.index;
}
