use Rattle.std.proofs.Common.{◌∙◌, ap}
use Rattle.spim_machine.proofs.PartsOfMachines.{memory_of}
use Rattle.spim_machine.proofs.Printing.{string_printed, string_trapped}
use Rattle.spim_machine.proofs.machine.Machine.print_string.Goals as goal

pub returns-in_default-clause-does : goal.returns-in_default-clause-does
returns-in_default-clause-does g c left =
    string_trapped c.args.self.now c.memory-memory.result.now c.a0-address.result c.bad_address.result left (g.K.Sink.held c.args.sink.now)
    (c.memory-memory.ensures ∙ ap memory_of c.self.view_is) c.a0-address.ensures c.in_default.ensures.none c.bad_address.ensures

pub returns-in-Ok-clause-does : goal.returns-in-Ok-clause-does
returns-in-Ok-clause-does g c left =
    string_printed c.args.self.now c.memory-memory.result.now c.a0-address.result _ left _ _
    (c.memory-memory.ensures ∙ ap memory_of c.self.view_is) c.a0-address.ensures c.in-Some.ensures.found c.in-Ok.ensures.put
