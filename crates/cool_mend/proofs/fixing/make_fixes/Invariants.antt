-- In the loop of `make_fixes`, the edits so far are fixes that were suggested, and lead to the files so far.
use Rattle.std.proofs.Common.{◌≤◌, length}
use Rattle.cool_syntax.specs.declared.TheConstants.{MOST_FILES, MOST_SOURCE_BYTES}
use Rattle.cool_faults.specs.Files.{bytes_of, total}
use Rattle.cool_mend.specs.AfterFixes.{AreMade}
use Rattle.cool_mend.proofs.fixing.make_fixes.Given as goal

abbrev pub invariant-loop-index : goal.invariant-loop-index
invariant-loop-index l = record {
  made : AreMade (bytes_of l.files) l.explained l.edits.items (bytes_of l.all.items);
  few : length l.all.items ≤ MOST_FILES;
  small : total (bytes_of l.all.items) ≤ MOST_SOURCE_BYTES;
}
