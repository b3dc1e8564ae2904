use Rattle.std.proofs.Common.{arith, ◌≤◌, length}
use Rattle.std.proofs.lemmas.Grind.{common_steps}
use Rattle.mips_isa.specs.Lines.{lines_of}
use Rattle.mips_text.proofs.ReadLines.{lines_read}
use Rattle.mips_text.proofs.StatementsInRange.{reads_in_range}
use Rattle.mips_text.proofs.reading.read_asm.Goals as goal

pub returns-clause-ranges : goal.returns-clause-ranges
returns-clause-ranges c =
    let none : length c.loop-rest.rest.now ≤ 0 = grind (arith, common_steps) in
    reads_in_range c.args.bytes.now (lines_of c.loop-rest.lines.items) (lines_read c.loop-rest.lines.items c.args.bytes.now c.loop-rest.rest.now none c.loop-rest.invariant.read)
