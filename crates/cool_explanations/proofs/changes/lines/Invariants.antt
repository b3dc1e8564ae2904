-- In the loop of `lines`, which splits bytes at newlines, the lines so far, followed by those of the unfinished line and the bytes that are left, are all
-- lines.
use Rattle.std.proofs.Common.{◌≡◌, ◌++◌, drop, []}
use Rattle.cool_faults.specs.Files.{bytes_of}
use Rattle.cool_explanations.specs.Changes.{lines_from}
use Rattle.cool_explanations.proofs.changes.lines.Given as goal

abbrev pub invariant-loop-index : goal.invariant-loop-index
invariant-loop-index l = bytes_of l.all.items ++ lines_from l.line.items (drop l.index l.bytes) ≡ lines_from [] l.bytes
