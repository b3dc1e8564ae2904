use Rattle.mips_isa.specs.Lines.{line_of, lines_of}
use Rattle.mips_text.specs.Printing.{line_text}
use Rattle.mips_text.proofs.PrintedParts.{part_written, seen_at, seen_below}
use Rattle.mips_text.proofs.printing.print_asm.Goals as goal

pub loop-line-preserved : goal.loop-line-preserved
loop-line-preserved c =
    rw c.in_ok-put_line.ensures (part_written line_text c.loop-line.out.items _ (lines_of c.args.lines.now) c.loop-line.line-index (line_of c.line-item.result) (seen_below line_of c.args.lines.now c.loop-line.line-index c.loop-line-test.true) (seen_at line_of c.args.lines.now c.loop-line.line-index c.line-item.result c.loop-line-test.true c.line-item.is) c.loop-line.invariant)
