-- The loop of `add_cyclic` has added an error for each class definition on a cycle of inheritance before the current one.
use Rattle.std.proofs.Common.{◌≡◌, ◌++◌, ℕ, [], drop}
use Rattle.cool_syntax.specs.TreesWithinLimits.{AreClassesWithin}
use Rattle.cool_classes.specs.ClassFaults.{cycle_faults}
use Rattle.cool_classes.specs.Settled.{AddsFaults}
use Rattle.cool_classes.proofs.class_phase.add_cyclic.Given as goal

abbrev pub invariant-loop-class : goal.invariant-loop-class
invariant-loop-class l = record {
  adds : AddsFaults (λ (n : ℕ). AreClassesWithin n l.definitions) l.fn.faults.items l.faults.items;
  exact : l.faults.items ++ cycle_faults l.definitions (drop l.class-index l.cyclic) ≡ l.fn.faults.items ++ cycle_faults l.definitions l.cyclic;
  none : l.faults.items ≡ [] → l.class-index ≡ 0;
}
