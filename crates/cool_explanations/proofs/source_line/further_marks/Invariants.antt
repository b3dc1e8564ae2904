-- In the loop of `further_marks`, the carets (`^`) so far, followed by those below the bytes that are left, are the carets below all bytes.
use Rattle.std.proofs.Common.{◌≡◌, ◌++◌, drop}
use Rattle.std.specs.List.{flat_map}
use Rattle.cool_explanations.specs.SourceLines.{mark_of}
use Rattle.cool_explanations.proofs.source_line.further_marks.Given as goal

abbrev pub invariant-loop-byte : goal.invariant-loop-byte
invariant-loop-byte l = l.text.items ++ flat_map mark_of (drop l.byte-index l.bytes) ≡ flat_map mark_of l.bytes
