use Rattle.std.proofs.Common.{◌∙◌, refl, ap, [], ◌∷◌, ◌%◌, get_or}
use Rattle.cool_ports.specs.SinkBytes.{appended}
use Rattle.mips_isa.specs.Calls as calls
use Rattle.spim_machine.proofs.Printing.{printed}
use Rattle.spim_machine.proofs.machine.Machine.print_char.Goals as goal

pub returns-in-Ok-clause-does : goal.returns-in-Ok-clause-does
returns-in-Ok-clause-does g c left =
    printed (λ s. calls.print s (calls.a0 s % 256 ∷ [])) c.args.self.now (get_or c.args.self.now.cpu.registers 4 0 % 256 ∷ []) left _ _ (λ input output. refl)
    (c.in-Ok.ensures.put ∙ ap (λ a. appended (g.K.Sink.held c.args.sink.now) (a % 256 ∷ [])) c.a0.ensures)
