-- `give` passes a value to the frame that waits for it, as `returned` of `StackMachine.antt` defines. A frame that waits for a receiver leads to a call, and
-- any other frame to a step of `resume` that uses neither source nor sink.
use Rattle.std.proofs.Common.{map, ap}
use Rattle.cool_ports.specs.SinkPuts.{seen}
use Rattle.cool_eval.specs.Values.{value_of}
use Rattle.cool_eval.specs.Configurations.{class_name, frame_of, frames_of, state_of}
use Rattle.cool_eval.specs.StackMachine.{returned}
use Rattle.cool_eval.proofs.QuietSteps.{quiet_reaches}
use Rattle.cool_eval.proofs.StepsOnDevices.{receiver_reaches}
use Rattle.cool_eval.proofs.step.give.Goals as goal

pub returns-in-Receiver-clause-reaches : goal.returns-in-Receiver-clause-reaches
returns-in-Receiver-clause-reaches g c =
    let p = c.args.setting.now.table.now in
    let s = g.S.Source in
    let k = g.K.Sink in
    let r = c.in-Receiver in
    receiver_reaches p c.call.result c.args.machine.now c.call.new.machine (frame_of p c.args.frame) (s.past c.args.source.now) (s.past c.call.new.source) (seen (k.held c.args.sink.now) (k.puts c.args.sink.now)) (seen (k.held c.call.new.sink) (k.puts c.call.new.sink)) (value_of c.args.value)
    r.at (class_name r.class) r.name.now (map value_of r.given.items) (ap (frame_of p) r.is) c.call.ensures.reaches

pub returns-in_default-clause-reaches : goal.returns-in_default-clause-reaches
returns-in_default-clause-reaches g c =
    let p = c.args.setting.now.table.now in
    let m = c.args.machine.now in
    quiet_reaches p c.resume.result c.resume.new.machine m.ended (g.S.Source.past c.args.source.now) (seen (g.K.Sink.held c.args.sink.now) (g.K.Sink.puts c.args.sink.now))
    (λ input output. returned p (frame_of p c.args.frame) (value_of c.args.value) (frames_of p m) (state_of m input output) m.left) c.resume.ensures.inner c.resume.ensures.comes
