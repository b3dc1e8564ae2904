-- In the loop of `fit`, which tests the limit on the bytes of all files, `left` is this limit less the number of bytes of the files so far.
use Rattle.std.proofs.Common.{◌≡◌, ◌+◌, drop}
use Rattle.cool_syntax.specs.declared.TheConstants.{MOST_SOURCE_BYTES}
use Rattle.cool_faults.specs.Files.{bytes_of, total}
use Rattle.cool_mend.proofs.editing.fit.Given as goal

abbrev pub invariant-loop-index : goal.invariant-loop-index
invariant-loop-index l = total (bytes_of l.files) + l.left ≡ total (bytes_of (drop l.index l.files)) + MOST_SOURCE_BYTES
