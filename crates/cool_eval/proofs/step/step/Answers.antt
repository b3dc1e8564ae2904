-- `step` does as `step` of `StackMachine.antt` defines: it begins an expression or an initial value, or passes a value to the frame that waits for it.
use Rattle.std.proofs.Common.{◌≡◌, length, Some, Ok, Err, refl, ap, rules}
use Rattle.cool_ports.specs.SinkPuts.{seen}
use Rattle.cool_meaning.specs.Values as values
use Rattle.cool_eval.specs.Values.{value_of, locations_from}
use Rattle.cool_eval.specs.Configurations.{env_of, focus_of}
use Rattle.cool_eval.proofs.StepsOnDevices.{begin_steps, start_steps, whole_returned, given_steps}
use Rattle.cool_eval.proofs.step.step.Goals as goal

pub returns-in_err-begin-in-Begin-clause-reaches : goal.returns-in_err-begin-in-Begin-clause-reaches
returns-in_err-begin-in-Begin-clause-reaches g c =
    let p = c.args.setting.now.table.now in
    let scene = c.in-Begin.scene.value in
    let e = c.in_err-begin-in-Begin.field-0.0 in
    let same : c.from_residual.result ≡ Err e = search rules in
    begin_steps p (focus_of p c.args.focus) (value_of scene.me) (env_of p scene) c.in-Begin.part (Err e) c.from_residual.result c.args.machine.now c.begin.new.machine (g.S.Source.past c.args.source.now) (seen (g.K.Sink.held c.args.sink.now) (g.K.Sink.puts c.args.sink.now))
    (ap (focus_of p) c.in-Begin.is) same c.in_err-begin-in-Begin.ensures.inner c.in_err-begin-in-Begin.ensures.comes

pub returns-in_ok-begin-in-Begin-clause-reaches : goal.returns-in_ok-begin-in-Begin-clause-reaches
returns-in_ok-begin-in-Begin-clause-reaches g c =
    let p = c.args.setting.now.table.now in
    let scene = c.in-Begin.scene.value in
    let f = c.in_ok-begin-in-Begin.field-0 in
    begin_steps p (focus_of p c.args.focus) (value_of scene.me) (env_of p scene) c.in-Begin.part (Ok f) (Ok (Some f)) c.args.machine.now c.begin.new.machine (g.S.Source.past c.args.source.now) (seen (g.K.Sink.held c.args.sink.now) (g.K.Sink.puts c.args.sink.now))
    (ap (focus_of p) c.in-Begin.is) refl tt c.in_ok-begin-in-Begin.ensures.comes

pub returns-in_err-start_values-in-Start-clause-reaches : goal.returns-in_err-start_values-in-Start-clause-reaches
returns-in_err-start_values-in-Start-clause-reaches g c =
    let p = c.args.setting.now.table.now in
    let o = c.in-Start.object in
    let rest = c.in-Start.rest.now in
    let e = c.in_err-start_values-in-Start.field-0.0 in
    let same : c.from_residual-in_err-start_values-in-Start.result ≡ Err e = search rules in
    start_steps p (focus_of p c.args.focus) (values.Obj o.class o.identity (locations_from o.first o.count)) rest (locations_from c.in-Start.location (length rest)) (Err e) c.from_residual-in_err-start_values-in-Start.result
    c.args.machine.now c.start_values.new.machine (g.S.Source.past c.args.source.now) (seen (g.K.Sink.held c.args.sink.now) (g.K.Sink.puts c.args.sink.now))
    (ap (focus_of p) c.in-Start.is) same c.in_err-start_values-in-Start.ensures.inner c.in_err-start_values-in-Start.ensures.comes

pub returns-in_ok-start_values-in-Start-clause-reaches : goal.returns-in_ok-start_values-in-Start-clause-reaches
returns-in_ok-start_values-in-Start-clause-reaches g c =
    let p = c.args.setting.now.table.now in
    let o = c.in-Start.object in
    let rest = c.in-Start.rest.now in
    let f = c.in_ok-start_values-in-Start.field-0 in
    start_steps p (focus_of p c.args.focus) (values.Obj o.class o.identity (locations_from o.first o.count)) rest (locations_from c.in-Start.location (length rest)) (Ok f) (Ok (Some f))
    c.args.machine.now c.start_values.new.machine (g.S.Source.past c.args.source.now) (seen (g.K.Sink.held c.args.sink.now) (g.K.Sink.puts c.args.sink.now))
    (ap (focus_of p) c.in-Start.is) refl tt c.in_ok-start_values-in-Start.ensures.comes

pub returns-in-None-clause-reaches : goal.returns-in-None-clause-reaches
returns-in-None-clause-reaches g c =
    let p = c.args.setting.now.table.now in
    let m = c.args.machine.now in
    whole_returned p (focus_of p c.args.focus) m (record { frames = c.pop.new.self; store = m.store; left = m.left; ended = m.ended }) (g.S.Source.past c.args.source.now) (seen (g.K.Sink.held c.args.sink.now) (g.K.Sink.puts c.args.sink.now)) (value_of c.in-Return.value)
    (ap (focus_of p) c.in-Return.is) (search (rules, c.in-None.ensures.cases, c.in-None.ensures.value, c.in-None.ensures.rest)) refl

pub returns-in_err-give-in-Some-clause-reaches : goal.returns-in_err-give-in-Some-clause-reaches
returns-in_err-give-in-Some-clause-reaches g c =
    let p = c.args.setting.now.table.now in
    let m = c.args.machine.now in
    let s = g.S.Source in
    let k = g.K.Sink in
    let e = c.in_err-give-in-Some.field-0.0 in
    let same : c.from_residual-in_err-give-in-Some.result ≡ Err e = search rules in
    given_steps p (focus_of p c.args.focus) (Err e) c.from_residual-in_err-give-in-Some.result m (record { frames = c.pop.new.self; store = m.store; left = m.left; ended = m.ended }) c.give.new.machine c.in-Some.frame
    (s.past c.args.source.now) (s.past c.give.new.source) (seen (k.held c.args.sink.now) (k.puts c.args.sink.now)) (seen (k.held c.give.new.sink) (k.puts c.give.new.sink)) (value_of c.in-Return.value)
    (ap (focus_of p) c.in-Return.is) same c.in-Some.ensures.items refl refl c.in_err-give-in-Some.ensures.reaches

pub returns-in_ok-give-in-Some-clause-reaches : goal.returns-in_ok-give-in-Some-clause-reaches
returns-in_ok-give-in-Some-clause-reaches g c =
    let p = c.args.setting.now.table.now in
    let m = c.args.machine.now in
    let s = g.S.Source in
    let k = g.K.Sink in
    let f = c.in_ok-give-in-Some.field-0 in
    given_steps p (focus_of p c.args.focus) (Ok f) (Ok (Some f)) m (record { frames = c.pop.new.self; store = m.store; left = m.left; ended = m.ended }) c.give.new.machine c.in-Some.frame
    (s.past c.args.source.now) (s.past c.give.new.source) (seen (k.held c.args.sink.now) (k.puts c.args.sink.now)) (seen (k.held c.give.new.sink) (k.puts c.give.new.sink)) (value_of c.in-Return.value)
    (ap (focus_of p) c.in-Return.is) refl c.in-Some.ensures.items refl refl c.in_ok-give-in-Some.ensures.reaches
