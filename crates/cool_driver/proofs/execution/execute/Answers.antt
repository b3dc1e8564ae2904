use Rattle.std.proofs.Common.{[], ap, arith, false, refl}
use Rattle.cool_ports.proofs.InputsInParts.{leaves_same, took_nothing}
use Rattle.spim_machine.specs.Puts.{PutWithin, run_puts}
use Rattle.cool_driver.specs.{Calls.{sink_use}, Comes.{Comes}}
use Rattle.cool_driver.proofs.{ComesOfRuns.{run_goes}, DevicesOfCalls.{got_nothing, short_goes}, PutsOfCalls.{put_by_halt, put_none}, RunsWithinLimits.{loaded_within, ran_within}, LinesOfNotes.{no_lines}}
use Rattle.cool_driver.proofs.execution.execute.Goals as goal

-- memory ran out for the machine
pub returns-in_default : goal.returns-in_default
returns-in_default g c = record {
  taken = (false, took_nothing _ _ _);
  ends = λ r rest calm leaves.
      short_goes (omega (arith, calm)) (refl, refl) refl (Comes.short (got_nothing _ _, got_nothing _ _, leaves_same _ r.input rest leaves, refl));
  lines = no_lines _;
  other = λ e. cc;
  puts = λ given rest leaves. put_none refl;
}

pub returns : goal.returns
returns g c = record {
  taken = (_, rw (ap (λ s. s.ended) (c.in-Ok.ensures.state [])) at (c.run-halt.ensures.took c.in-Ok.ensures.goes_on));
  ends = λ r rest calm leaves.
      let loaded = c.in-Ok.ensures in
      let limits = c.machine_limits in
      run_goes calm c.run-halt.result c.run-halt.new.self
      (ran_within c.args.limits c.args.image.now _ _ c.in-Ok.machine c.run-halt.new.self c.args.limits.steps r.input c.run-halt.result _ _ _ _ limits.ensures.heap limits.ensures.stack (loaded.state r.input) loaded.text loaded.segments refl
      (λ first s at. c.run-halt.ensures.ran first s loaded.goes_on r.input rest leaves at))
      (c.run-halt.ensures.counts loaded.goes_on) c.tell_halt.ensures.noted;
  lines = c.tell_halt.ensures.lines;
  other = c.tell_halt.ensures.other;
  puts = λ given rest leaves.
      let loaded = c.in-Ok.ensures in
      let limits = c.machine_limits in
      put_by_halt (sink_use g.E.Sink c.args.notes.now c.tell_halt.new.notes) c.run-halt.result
      (loaded_within c.args.limits c.args.image.now _ _ c.in-Ok.machine given _ _ (λ text b s first. PutWithin c.run-halt.result (run_puts text b c.args.limits.steps s) (g.O.Sink.puts c.args.out.now) (g.O.Sink.puts c.run-halt.new.sink))
      limits.ensures.heap limits.ensures.stack (loaded.state given) loaded.text loaded.segments refl
      (λ first s at. c.run-halt.ensures.puts first s loaded.goes_on given rest leaves at))
      c.tell_halt.ensures.noted;
}
