use Rattle.std.proofs.Common.{◌≡◌, ◌++◌}
use Rattle.std.specs.Fmt.{signed_decimal}
use Rattle.mips_text.proofs.SpellingRows.{operands_left}
use Rattle.mips_text.proofs.rows.put_bytes.Given as goal

abbrev pub invariant-loop-index : goal.invariant-loop-index
invariant-loop-index l = l.out.items ++ operands_left signed_decimal l.index l.values ≡ l.initial.out.items ++ operands_left signed_decimal 0 l.values
