use Rattle.std.proofs.Common.{◌≡◌, ◌≤◌, take}
use Rattle.std.specs.List.{count_by}
use Rattle.cool_lexer.specs.Readings.{is_newline}
use Rattle.cool_lexer.proofs.reading.newlines.Given as goal

abbrev pub invariant-loop-byte : goal.invariant-loop-byte
invariant-loop-byte l = record {
  count : l.count ≡ count_by is_newline (take l.byte-index l.bytes);
  within : l.count ≤ l.byte-index;
}
