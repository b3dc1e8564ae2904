use Rattle.std.proofs.Common.{arith}
use Rattle.mips_text.proofs.MissingOperands.{one_missing}
use Rattle.mips_text.proofs.wanted.+row_fault.Goals as goal

pub returns-in-len1-up-wanted : goal.returns-in-len1-up-wanted
returns-in-len1-up-wanted t c = one_missing c.args.wanted.now c.args.words.now (omega arith) (omega arith)
