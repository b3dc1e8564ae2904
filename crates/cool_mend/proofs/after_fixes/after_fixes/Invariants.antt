-- In the loop of `after_fixes`, the steps so far are right, and the fixes of the errors that were told last are made.
use Rattle.std.proofs.Common.{◌<◌, ◌≤◌, length}
use Rattle.std.specs.List.{AllByRecursion}
use Rattle.cool_syntax.specs.declared.TheConstants.{MOST_FILES, MOST_SOURCE_BYTES}
use Rattle.cool_faults.specs.Files.{bytes_of, total}
use Rattle.cool_mend.specs.AfterFixes.{AreAfterFixes, AreMade, ArePlaced, HasProgress, begun}
use Rattle.cool_mend.proofs.NewFaults.{after_all}
use Rattle.cool_mend.proofs.after_fixes.after_fixes.Given as goal

abbrev pub invariant-loop : goal.invariant-loop
invariant-loop l = let p = after_all (begun (bytes_of l.files) l.explained) l.all.items in record {
  steps : AreAfterFixes (begun (bytes_of l.files) l.explained) l.all.items;
  progress : HasProgress p l.steps.shifts.items l.steps.told.items;
  made : AreMade p.files p.explained l.made.edits.items (bytes_of l.made.files.items);
  few : length l.made.files.items ≤ MOST_FILES;
  small : total (bytes_of l.made.files.items) ≤ MOST_SOURCE_BYTES;
  placed : 0 < length (bytes_of l.files) → AllByRecursion (ArePlaced (length (bytes_of l.files))) l.all.items;
}
