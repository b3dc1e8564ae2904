-- In the loop of `files_text`, the text so far, followed by the lines of the files that are left, is the text of all files. The classes that are left have the
-- next numbers.
use Rattle.std.proofs.Common.{◌+◌, ◌≤◌, drop}
use Rattle.std.specs.Option.{option_map}
use Rattle.cool_faults.specs.Files.{bytes_of, total}
use Rattle.cool_listings.proofs.TreesOfFiles.{AreLeft, GoesOn}
use Rattle.cool_listings.proofs.trees.files_text.Given as goal

abbrev pub invariant-loop-index : goal.invariant-loop-index
invariant-loop-index l = record {
  goes_on : GoesOn (option_map (λ p. p.now) l.program) (bytes_of l.fn.files) l.index l.told.number (bytes_of (drop l.index l.fn.files)) l.told.text.items;
  left : AreLeft (option_map (λ p. p.now) l.program) l.index l.told.number (bytes_of (drop l.index l.fn.files));
  few : l.told.number + total (bytes_of (drop l.index l.fn.files)) ≤ 5 + total (bytes_of l.fn.files);
}
