use Rattle.std.proofs.Common.{length}
use Rattle.mips_text.proofs.wanted.+row_fault.Given as goal

abbrev pub decreases-row_fault : goal.decreases-row_fault
decreases-row_fault l = length l.words.now
