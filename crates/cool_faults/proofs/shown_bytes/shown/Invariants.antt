-- In the loop of `shown`, the bytes so far, followed by the converted rest of the text, are the whole converted text, in which `?` stands for the bytes of
-- terminal control characters.
use Rattle.std.proofs.Common.{◌≡◌, ◌++◌, drop, length}
use Rattle.cool_faults.specs.Shown.{shown_from}
use Rattle.cool_faults.proofs.shown_bytes.shown.Given as goal

abbrev pub invariant-loop-index : goal.invariant-loop-index
invariant-loop-index l = record {
  are : l.bytes.items ++ shown_from l.left (drop l.index l.text) ≡ shown_from 0 l.text;
  count : length l.bytes.items ≡ l.index;
}
