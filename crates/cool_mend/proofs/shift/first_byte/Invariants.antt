-- In the loop of `first_byte`, the byte so far comes from the same byte of the given file as the one at the beginning.
use Rattle.std.proofs.Common.{◌≡◌, drop}
use Rattle.cool_mend.specs.AfterFixes.{first_byte}
use Rattle.cool_mend.proofs.shift.first_byte.Given as goal

abbrev pub invariant-loop-index : goal.invariant-loop-index
invariant-loop-index l = l.found ≡ first_byte (drop l.index l.shifts) l.file l.byte
