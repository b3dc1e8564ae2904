-- In the loop of `first_line`, the bytes so far, followed by the first line of the bytes that are left, are the first line of all bytes.
use Rattle.std.proofs.Common.{◌≡◌, ◌++◌, drop, take}
use Rattle.cool_guess.specs.Words.{first_line}
use Rattle.cool_guess.proofs.telling.first_line.Given as goal

abbrev pub invariant-loop-index : goal.invariant-loop-index
invariant-loop-index l = take l.index l.bytes ++ first_line (drop l.index l.bytes) ≡ first_line l.bytes
