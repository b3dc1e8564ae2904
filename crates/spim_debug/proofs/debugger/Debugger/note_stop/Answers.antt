use Rattle.std.proofs.Common.{◌+◌, ◌∙◌}
use Rattle.spim_debug.proofs.ObeyedCommands.{ended_noted}
use Rattle.spim_debug.proofs.debugger.Debugger.note_stop.Goals as goal

pub returns-in-Exit-clause-noted : goal.returns-in-Exit-clause-noted
returns-in-Exit-clause-noted g c =
    ended_noted c.args.run.stopped.halt c.args.self.now.machine.cpu.pc (c.args.self.now.executed + c.args.run.stopped.executed) _ c.put_note-in-Exit.result _ _ c.in-Exit.is
    (c.as_bytes-in-Exit.ensures.value ∙ c.as_str-in-Exit.ensures.value ∙ c.ended_note.ensures) c.put_note-in-Exit.ensures.put
