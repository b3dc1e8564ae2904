use Rattle.std.proofs.Common.{◌∙◌, refl, sym, ap, subst, ℕ, ◌+◌, ◌-◌, Bool}
use Rattle.std.specs.Prelude.{Some}
use Rattle.spim_memory.specs.Memory.{segments}
use Rattle.spim_machine.specs.Counting.{RanTo}
use Rattle.cool_ports.specs.SinkPuts.{seen}
use Rattle.spim_debug.specs.declared.debugger.Debugger.{Debugger}
use Rattle.spim_debug.specs.declared.script.DebugCommand.TheVariants as commands
use Rattle.spim_debug.specs.declared.counted_run.CountedRun.{CountedRun}
use Rattle.spim_debug.specs.ByteCounts.{counted}
use Rattle.spim_debug.specs.Moves.{is_break}
use Rattle.spim_debug.specs.Obeying.{Obeyed}
use Rattle.spim_debug.proofs.GoingOn.{Counts, span, whole_span, answers_of, went_on, room_is, breaks_are, after_run}
use Rattle.spim_debug.proofs.ObeyedCommands.{obeyed_stop}
use Rattle.spim_debug.proofs.debugger.Debugger.run.Goals as goal

-- the state of the machine, by the results of its run up to a break address of the script
pub returns-clause-obeyed : goal.returns-clause-obeyed
returns-clause-obeyed g c d p first input rest leaves st =
    let x = c.args.self.now in
    let m = c.run_counted-run.new.machine in
    let stopped = c.run_counted-run.result.stopped in
    let bytes = c.run_counted-run.result.bytes in
    let run = c.run_counted-run.ensures in
    let same = breaks_are d p first x _ _ st in
    let answers = answers_of (is_break p.breaks) (x.budget - x.executed) (span d p d.budget) first x stopped m _ _ input rest _ _
    (room_is d p first x _ _ st ∙ whole_span d p) leaves run.memory
    (λ s none is. subst (λ (b : ℕ → Bool). RanTo b x.machine.cpu.memory.text (segments x.machine.cpu.memory) (x.budget - x.executed) s first stopped m (Some rest) (g.K.Sink.held c.run_counted-run.new.sink)) same (run.ran first s none input rest leaves is))
    run.halted (λ halt h. ap (λ (r : CountedRun). r.stopped) (run.again halt h)) run.machine
    (λ halt h. ap g.S.Source.past (run.source halt h)) (λ halt h. ap g.K.Sink.held (run.sink halt h)) in
    let counts : Counts first x stopped bytes _ _ = record { grew = λ none s is. run.bytes first s none input rest leaves is; none = λ halt h. ap (λ (r : CountedRun). r.bytes) (run.again halt h) } in
    let went = went_on d p (is_break p.breaks) d.budget first x stopped bytes m _ _ _ _ st answers counts in
    subst (λ (y : Debugger). Obeyed d commands.Run p first c.note_stop.result y (Some rest) (g.K.Sink.held c.run_counted-run.new.sink) (seen (g.E.Sink.held c.args.notes.now) (g.E.Sink.puts c.args.notes.now)) (seen (g.E.Sink.held c.note_stop.new.notes) (g.E.Sink.puts c.note_stop.new.notes))) (sym c.note_stop.ensures.debugger)
    (obeyed_stop d commands.Run p first stopped.halt c.note_stop.result (after_run x m stopped.executed (counted (x.printed + bytes))) _ _ _ _ refl went c.note_stop.ensures.noted)
