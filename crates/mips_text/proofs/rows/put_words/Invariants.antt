use Rattle.std.proofs.Common.{◌≡◌, ◌++◌, map}
use Rattle.mips_isa.specs.Lines.{item_of}
use Rattle.mips_text.specs.Printing.{item_operand}
use Rattle.mips_text.proofs.SpellingRows.{operands_left}
use Rattle.mips_text.proofs.rows.put_words.Given as goal

abbrev pub invariant-loop-index : goal.invariant-loop-index
invariant-loop-index l = l.out.items ++ operands_left item_operand l.index (map item_of l.items) ≡ l.initial.out.items ++ operands_left item_operand 0 (map item_of l.items)
