use Rattle.std.proofs.Common.{ap}
use Rattle.spim_cpu.proofs.Starting.{start_is}
use Rattle.spim_cpu.proofs.cpu.Cpu.new.Goals as goal

pub returns-clause-core : goal.returns-clause-core
returns-clause-core c =
    start_is c.args.image.now c.args.limits.heap c.args.limits.stack c.image.inside.entry c.args.memory
    (ap (λ image. image.entry) c.image.view_is) c.requires.bytes
