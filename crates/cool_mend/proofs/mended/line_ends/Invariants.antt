-- In the loop of `line_ends`, the count so far and the line ends among the bytes that are left make the number of all line ends.
use Rattle.std.proofs.Common.{◌≡◌, ◌+◌, ◌≤◌, drop}
use Rattle.cool_mend.specs.Mends.{line_ends}
use Rattle.cool_mend.proofs.mended.line_ends.Given as goal

abbrev pub invariant-loop-index : goal.invariant-loop-index
invariant-loop-index l = record {
  counted : l.count + line_ends (drop l.index l.bytes) ≡ line_ends l.bytes;
  few : l.count ≤ l.index;
}
