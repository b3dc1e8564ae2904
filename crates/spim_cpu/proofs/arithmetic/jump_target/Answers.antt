use Rattle.std.proofs.Common.{◌+◌, arith}
use Rattle.spim_cpu.proofs.JumpTargets.{region_and_index}
use Rattle.spim_cpu.proofs.arithmetic.jump_target.Goals as goal

pub returns : goal.returns
returns c = region_and_index (c.args.pc + 4) c.args.index (omega arith) c.requires.index
