-- `begin_call` does as `begin_call` of `StackMachine.antt` defines: it runs a method of a basic class on the source and the sink, and begins the body of any
-- other method.
use Rattle.std.proofs.Common.{◌≡◌, map, Some, Ok, Err, refl, sym, ap, ◌∙◌, rules}
use Rattle.cool_ports.specs.SinkPuts.{seen}
use Rattle.cool_classes.specs.declared.method.MethodRef.{MethodRef}
use Rattle.cool_classes.specs.declared.method.MethodRef.TheVariants.{Basic, User}
use Rattle.cool_eval.specs.declared.frame.Focus.TheVariants as focus
use Rattle.cool_eval.specs.Values.{value_of}
use Rattle.cool_eval.proofs.QuietSteps.{basic_reaches}
use Rattle.cool_eval.proofs.StepsOnDevices.{none_reaches, user_reaches}
use Rattle.cool_eval.proofs.call.begin_call.Goals as goal

pub returns-in_err-value-in-Basic-clause-reaches : goal.returns-in_err-value-in-Basic-clause-reaches
returns-in_err-value-in-Basic-clause-reaches g c =
    let s = g.S.Source in
    let k = g.K.Sink in
    let e = c.in_err-value-in-Basic.field-0.0 in
    let m = c.args.machine.now in
    let is : Some (Basic c.in-Basic.method) ≡ c.args.method = sym (c.in-Some.is ∙ ap (λ (r : MethodRef). Some r) c.in-Basic.is) in
    let same : c.from_residual.result ≡ Err e = search rules in
    basic_reaches c.args.setting.now.table.now (Err e) c.from_residual.result (record { frames = m.frames; store = c.basic.new.store; left = m.left; ended = c.basic.new.ended })
    m.ended (s.past c.args.source.now) (s.past c.basic.new.source) (seen (k.held c.args.sink.now) (k.puts c.args.sink.now)) (seen (k.held c.basic.new.sink) (k.puts c.basic.new.sink)) c.args.at (value_of c.args.me) (map value_of c.args.given.items)
    c.in-Basic.method c.args.method m.store is same c.in_err-value-in-Basic.ensures.acts

pub returns-in_default-clause-reaches : goal.returns-in_default-clause-reaches
returns-in_default-clause-reaches g c =
    none_reaches c.args.setting.now.table.now c.args.machine.now (g.S.Source.past c.args.source.now) (seen (g.K.Sink.held c.args.sink.now) (g.K.Sink.puts c.args.sink.now)) c.args.at (value_of c.args.me) (map value_of c.args.given.items) c.args.method (sym c.in_default.is)

pub returns-in_ok-value-in-Basic-clause-reaches : goal.returns-in_ok-value-in-Basic-clause-reaches
returns-in_ok-value-in-Basic-clause-reaches g c =
    let s = g.S.Source in
    let k = g.K.Sink in
    let v = c.in_ok-value-in-Basic.value in
    let m = c.args.machine.now in
    let is : Some (Basic c.in-Basic.method) ≡ c.args.method = sym (c.in-Some.is ∙ ap (λ (r : MethodRef). Some r) c.in-Basic.is) in
    basic_reaches c.args.setting.now.table.now (Ok v) (Ok (focus.Return v)) (record { frames = m.frames; store = c.basic.new.store; left = m.left; ended = c.basic.new.ended })
    m.ended (s.past c.args.source.now) (s.past c.basic.new.source) (seen (k.held c.args.sink.now) (k.puts c.args.sink.now)) (seen (k.held c.basic.new.sink) (k.puts c.basic.new.sink)) c.args.at (value_of c.args.me) (map value_of c.args.given.items)
    c.in-Basic.method c.args.method m.store is refl c.in_ok-value-in-Basic.ensures.acts

pub returns-in-User-clause-reaches : goal.returns-in-User-clause-reaches
returns-in-User-clause-reaches g c =
    let is : Some (User c.in-User.owner c.in-User.index) ≡ c.args.method = sym (c.in-Some.is ∙ ap (λ (r : MethodRef). Some r) c.in-User.is) in
    user_reaches c.args.setting.now.table.now c.begin_method.result c.args.machine.now c.begin_method.new.machine (g.S.Source.past c.args.source.now) (seen (g.K.Sink.held c.args.sink.now) (g.K.Sink.puts c.args.sink.now))
    c.args.at (value_of c.args.me) (map value_of c.args.given.items) c.args.method c.in-User.owner c.in-User.index is c.begin_method.ensures.inner c.begin_method.ensures.comes
