-- In the loop of `Emission::second_pass`, the batches of lines not yet passed are still left for the assembler's second pass (`HasLeft`).
use Rattle.std.proofs.Common.{drop}
use Rattle.mips_asm.specs.SecondPasses.{HasLeft}
use Rattle.cool_emit.specs.Additions.{files_of}
use Rattle.cool_emit.specs.Batches.{batches_of, joined, AreAsked}
use Rattle.cool_emit.specs.Programs.{program_lines}
use Rattle.cool_emit.proofs.emission.Emission.second_pass.Given as goal

abbrev pub invariant-loop-number : goal.invariant-loop-number
invariant-loop-number l = record {
  constants : AreAsked l.fn.self.program.now (files_of l.fn.self) l.number l.consts;
  left : HasLeft l.pass (program_lines l.fn.self.program.now (files_of l.fn.self)) (joined (drop l.number (batches_of l.fn.self.program.now (files_of l.fn.self))));
}
