use Rattle.std.proofs.Common.{◌≡◌, ◌++◌}
use Rattle.mips_text.proofs.SpellingRows.{operands_left}
use Rattle.mips_text.specs.Spelling.{register_operand}
use Rattle.mips_text.proofs.rows.put_registers.Given as goal

abbrev pub invariant-loop-index : goal.invariant-loop-index
invariant-loop-index l = l.out.items ++ operands_left register_operand l.index l.registers ≡ l.initial.out.items ++ operands_left register_operand 0 l.registers
