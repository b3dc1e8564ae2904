use Rattle.std.proofs.Common.{◌≡◌, ◌++◌, drop, flat_map}
use Rattle.mips_isa.specs.Lines.{lines_of}
use Rattle.mips_text.specs.Printing.{line_text}
use Rattle.mips_text.proofs.printing.print_asm.Given as goal

abbrev pub invariant-loop-line : goal.invariant-loop-line
invariant-loop-line l = l.out.items ++ flat_map line_text (drop l.line-index (lines_of l.lines)) ≡ flat_map line_text (lines_of l.lines)
