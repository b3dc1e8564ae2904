use Rattle.std.proofs.Common.{rules}
use Rattle.spim_memory.proofs.GrowingStacks.{grown_down}
use Rattle.spim_memory.proofs.stack_bytes.reach.Goals as goal

pub returns-clause-kept : goal.returns-clause-kept
returns-clause-kept c =
    grown_down c.args.written.now.items c.resize.new.self.items c.rotate_right.new.self.items c.args.size c.min-grown.result c.len-count.result (search rules) (search rules) (search rules) (search rules) (search rules) (search rules)
