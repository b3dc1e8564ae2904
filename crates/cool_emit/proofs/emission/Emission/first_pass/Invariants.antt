-- In the loop of `Emission::first_pass`, the assembler's first pass has taken the batches of lines passed so far, and the first of them are kept for the second
-- pass.
use Rattle.std.proofs.Common.{◌≤◌, length, take}
use Rattle.mips_asm.specs.FirstPasses.{HasTaken}
use Rattle.cool_emit.specs.Additions.{files_of}
use Rattle.cool_emit.specs.Batches.{batches_of, joined, AreAsked, AreFirst}
use Rattle.cool_emit.specs.declared.kept.TheConstants.{MOST_KEPT_LINES}
use Rattle.cool_emit.proofs.emission.Emission.first_pass.Given as goal

abbrev pub invariant-loop-number : goal.invariant-loop-number
invariant-loop-number l = record {
  constants : AreAsked l.fn.self.program.now (files_of l.fn.self) l.number l.consts;
  taken : HasTaken l.pass (joined (take l.number (batches_of l.fn.self.program.now (files_of l.fn.self))));
  kept : AreFirst (batches_of l.fn.self.program.now (files_of l.fn.self)) l.kept;
  few : length l.kept.lines.items ≤ MOST_KEPT_LINES;
}
