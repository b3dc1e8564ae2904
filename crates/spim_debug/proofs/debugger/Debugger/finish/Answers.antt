use Rattle.std.proofs.Common.{◌-◌, ap}
use Rattle.spim_debug.specs.Moves.{no_break}
use Rattle.spim_debug.proofs.GoingOn.{answers_of, ended, room_is}
use Rattle.spim_debug.proofs.debugger.Debugger.finish.Goals as goal

-- the run goes on to its end
pub returns-clause-ended : goal.returns-clause-ended
returns-clause-ended g c d p first input rest leaves st =
    let x = c.args.self.now in
    let run = c.run_to.ensures in
    let answers = answers_of no_break (x.budget - x.executed) (d.budget - p.executed) first x c.run_to.result c.run_to.new.self _ _ input rest _ _
    (room_is d p first x _ _ st) leaves run.memory (λ s none is. run.ran first s none input rest leaves is) run.halted run.again run.machine
    (λ halt h. ap g.S.Source.past (run.source halt h)) (λ halt h. ap g.K.Sink.held (run.sink halt h)) in
    ended d p first x c.run_to.result c.run_to.new.self _ _ _ _ st answers
