-- In the loop of `blanks`, the blanks so far, followed by those below the bytes that are left, are the blanks below all bytes.
use Rattle.std.proofs.Common.{◌≡◌, ◌++◌, drop}
use Rattle.std.specs.List.{flat_map}
use Rattle.cool_explanations.specs.SourceLines.{blank_of}
use Rattle.cool_explanations.proofs.source_line.blanks.Given as goal

abbrev pub invariant-loop-byte : goal.invariant-loop-byte
invariant-loop-byte l = l.text.items ++ flat_map blank_of (drop l.byte-index l.bytes) ≡ flat_map blank_of l.bytes
