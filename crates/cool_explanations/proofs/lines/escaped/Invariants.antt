-- In the loop of `escaped`, the text so far, followed by the escaped bytes that are left, is the text of all bytes.
use Rattle.std.proofs.Common.{◌≡◌, ◌++◌, drop}
use Rattle.std.specs.List.{flat_map}
use Rattle.cool_explanations.specs.Lines.{escaped_byte}
use Rattle.cool_explanations.proofs.lines.escaped.Given as goal

abbrev pub invariant-loop-byte : goal.invariant-loop-byte
invariant-loop-byte l = l.text.items ++ flat_map escaped_byte (drop l.byte-index l.bytes) ≡ flat_map escaped_byte l.bytes
