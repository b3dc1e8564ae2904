-- In the loop of `FirstPass::take`, the first pass knows the labels and positions of all lines that the loop has passed, or their first error (`Taking`).
use Rattle.std.proofs.Common.{drop, List}
use Rattle.mips_isa.specs.Lines.{Line, lines_of}
use Rattle.mips_asm.specs.FirstPasses.{HasTaken}
use Rattle.mips_asm.proofs.FirstPasses.{Taking}
use Rattle.mips_asm.proofs.first_pass.FirstPass.take.Given as goal

abbrev pub invariant-loop-line : goal.invariant-loop-line
invariant-loop-line l = (taken : List Line) → HasTaken l.fn.self taken → Taking l.self taken (lines_of l.lines) (lines_of (drop l.line-index l.lines))
