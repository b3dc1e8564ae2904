-- In the loop of `Assembly::take`, the text and data so far, with the lines that the loop has still to assemble, lead to the result of all lines (`IsLeft`).
use Rattle.std.proofs.Common.{◌++◌, drop, List}
use Rattle.mips_isa.specs.Lines.{Line, lines_of}
use Rattle.mips_asm.specs.Places.{places_of}
use Rattle.mips_asm.specs.SecondPasses.{IsLeft}
use Rattle.mips_asm.proofs.second_pass.Assembly.take.Given as goal

abbrev pub invariant-loop-line : goal.invariant-loop-line
invariant-loop-line l =
    (all rest : List Line) → IsLeft (places_of l.labels) all (lines_of l.lines ++ rest) l.fn.self → IsLeft (places_of l.labels) all (lines_of (drop l.line-index l.lines) ++ rest) l.self
