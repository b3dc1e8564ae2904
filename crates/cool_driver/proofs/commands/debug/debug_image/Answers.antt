use Rattle.cool_driver.proofs.{rooms.Debuggings.{halted_goes, note_failed, ran_short, stopped_at}, LinesOfDebuggers.{noted_lines}, LinesOfNotes.{more_lines}}
use Rattle.spim_debug.specs.Debugging.{debuggee}
use Rattle.cool_driver.proofs.commands.debug.debug_image.Goals as goal

-- the machine halted
pub returns-in-Halt : goal.returns-in-Halt
returns-in-Halt g c = record {
  taken = c.debug.ensures.taken;
  ends = λ r rest calm leaves.
      let limits = c.machine_limits-machine.ensures in
      halted_goes calm _ _ c.tell_halt.result c.in-Halt.halt
      (stopped_at limits.heap limits.stack c.in-Halt.is (c.debug.ensures.debugged r.input rest leaves) c.debug.ensures.counts) c.tell_halt.ensures.noted;
  lines = more_lines _ _ _ (noted_lines (λ input. debuggee c.args.image.now c.machine_limits-machine.result.heap c.machine_limits-machine.result.stack c.args.limits.steps input)
      c.args.commands.now c.debug.result _ _ _ _ (g.E.Sink.puts c.args.notes.now) (g.E.Sink.puts c.debug.new.notes) c.debug.ensures.taken c.debug.ensures.notes_put) c.tell_halt.ensures.lines;
  other = c.tell_halt.ensures.other;
}

-- the write of a note failed
pub returns-in-NoteFault : goal.returns-in-NoteFault
returns-in-NoteFault g c = record {
  taken = c.debug.ensures.taken;
  ends = λ r rest calm leaves.
      let limits = c.machine_limits-machine.ensures in
      note_failed calm (stopped_at limits.heap limits.stack c.in-NoteFault.is (c.debug.ensures.debugged r.input rest leaves) c.debug.ensures.counts);
  lines = noted_lines (λ input. debuggee c.args.image.now c.machine_limits-machine.result.heap c.machine_limits-machine.result.stack c.args.limits.steps input)
      c.args.commands.now c.debug.result _ _ _ _ (g.E.Sink.puts c.args.notes.now) (g.E.Sink.puts c.debug.new.notes) c.debug.ensures.taken c.debug.ensures.notes_put;
  other = λ e. cc;
}

-- memory ran out
pub returns-in-Memory : goal.returns-in-Memory
returns-in-Memory g c = record {
  taken = c.debug.ensures.taken;
  ends = λ r rest calm leaves.
      let limits = c.machine_limits-machine.ensures in
      ran_short calm (stopped_at limits.heap limits.stack c.in-Memory.is (c.debug.ensures.debugged r.input rest leaves) c.debug.ensures.counts);
  lines = noted_lines (λ input. debuggee c.args.image.now c.machine_limits-machine.result.heap c.machine_limits-machine.result.stack c.args.limits.steps input)
      c.args.commands.now c.debug.result _ _ _ _ (g.E.Sink.puts c.args.notes.now) (g.E.Sink.puts c.debug.new.notes) c.debug.ensures.taken c.debug.ensures.notes_put;
  other = λ e. cc;
}
