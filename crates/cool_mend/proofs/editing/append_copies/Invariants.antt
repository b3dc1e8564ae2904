-- In the loop of `append_copies`, the copies so far, followed by the files that are left, are all files.
use Rattle.std.proofs.Common.{◌≡◌, ◌++◌, drop}
use Rattle.cool_faults.specs.Files.{bytes_of}
use Rattle.cool_mend.proofs.editing.append_copies.Given as goal

abbrev pub invariant-loop-index : goal.invariant-loop-index
invariant-loop-index l = bytes_of l.all.items ++ bytes_of (drop l.index l.files) ≡ bytes_of l.initial.all.items ++ bytes_of l.files
