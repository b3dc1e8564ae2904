-- In the loop of `last_line`, the last line of the bytes so far begins at `start`.
use Rattle.std.proofs.Common.{◌≡◌, ◌≤◌, drop}
use Rattle.cool_explanations.specs.SourceLines.{last_start}
use Rattle.cool_explanations.proofs.source_line.last_line.Given as goal

abbrev pub invariant-loop-index : goal.invariant-loop-index
invariant-loop-index l = record {
  begins : last_start l.start l.index (drop l.index l.bytes) ≡ last_start 0 0 l.bytes;
  within : l.start ≤ l.index;
}
