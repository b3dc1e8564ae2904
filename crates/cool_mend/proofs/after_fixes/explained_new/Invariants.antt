-- In the loop of `explained_new`, the explanations so far are those of the new errors among the errors that were passed.
use Rattle.std.proofs.Common.{◌≡◌, take}
use Rattle.cool_faults.specs.Files.{bytes_of}
use Rattle.std.proofs.Common.{map}
use Rattle.std.specs.List.{AllByRecursion}
use Rattle.cool_mend.specs.AfterFixes.{IsExplained, new_faults, origin_of}
use Rattle.cool_mend.proofs.after_fixes.explained_new.Given as goal

abbrev pub invariant-loop-number : goal.invariant-loop-number
invariant-loop-number l = record {
  new : map (λ x. x.fault) l.explanations.items ≡ new_faults l.fn.steps.told.items l.fn.steps.shifts.items (take l.number l.faults);
  origins : l.origins.items ≡ map (λ x. origin_of l.fn.steps.shifts.items x.fault) l.explanations.items;
  explained : AllByRecursion (IsExplained (bytes_of l.files) l.faults) l.explanations.items;
  told : l.steps.told.items ≡ l.fn.steps.told.items;
  shifts : l.steps.shifts.items ≡ l.fn.steps.shifts.items;
}
