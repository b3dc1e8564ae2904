use Rattle.std.proofs.Common.{◌≡◌, ◌++◌, drop, flat_map}
use Rattle.mips_text.specs.Spelling.{letter_text}
use Rattle.mips_text.proofs.rows.put_text.Given as goal

abbrev pub invariant-loop-byte : goal.invariant-loop-byte
invariant-loop-byte l = l.out.items ++ flat_map letter_text (drop l.byte-index l.bytes) ≡ l.initial.out.items ++ flat_map letter_text l.bytes
