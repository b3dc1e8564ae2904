-- `call` looks up and begins a method as `call_class` of `StackMachine.antt` defines in each of four cases: the receiver is void, the class is unknown, no step
-- is left, or the call spends one.
use Rattle.std.proofs.Common.{◌≡◌, map, Some, Err, sym, ap, ◌∙◌, rules}
use Rattle.cool_ports.specs.SinkPuts.{seen}
use Rattle.cool_meaning.specs.Values.{class_of}
use Rattle.cool_eval.specs.declared.ending.Ending.{Ending}
use Rattle.cool_eval.specs.Values.{value_of}
use Rattle.cool_eval.specs.Configurations.{class_name}
use Rattle.cool_eval.proofs.StepsOnDevices.{void_reaches, unfound_reaches, limit_reaches, spent_reaches}
use Rattle.cool_eval.proofs.call.call.Goals as goal

pub returns-in_default-clause-reaches : goal.returns-in_default-clause-reaches
returns-in_default-clause-reaches g c =
    void_reaches c.args.setting.now.table.now c.args.machine.now (g.S.Source.past c.args.source.now) (seen (g.K.Sink.held c.args.sink.now) (g.K.Sink.puts c.args.sink.now)) c.args.at (class_name c.args.class) c.args.name.now (value_of c.args.me) (map value_of c.args.given.items)
    (sym c.class_of.ensures ∙ c.in_default.is)

pub returns-in_default-called_class-clause-reaches : goal.returns-in_default-called_class-clause-reaches
returns-in_default-called_class-clause-reaches g c =
    let own : class_of (value_of c.args.me) ≡ Some c.in-Some.own = sym c.class_of.ensures ∙ c.in-Some.is in
    unfound_reaches c.args.setting.now.table.now c.args.machine.now (g.S.Source.past c.args.source.now) (seen (g.K.Sink.held c.args.sink.now) (g.K.Sink.puts c.args.sink.now)) c.args.at (class_name c.args.class) c.args.name.now (value_of c.args.me) (map value_of c.args.given.items)
    (λ s n. c.in_default-called_class.ensures.called c.args.at (value_of c.args.me) s n own)

pub returns-in_err-spend-clause-reaches : goal.returns-in_err-spend-clause-reaches
returns-in_err-spend-clause-reaches g c =
    let own : class_of (value_of c.args.me) ≡ Some c.in-Some.own = sym c.class_of.ensures ∙ c.in-Some.is in
    let same : c.from_residual.result ≡ Err c.in_err-spend.field-0.0 = search rules in
    limit_reaches c.args.setting.now.table.now c.args.machine.now c.spend.new.self (g.S.Source.past c.args.source.now) (seen (g.K.Sink.held c.args.sink.now) (g.K.Sink.puts c.args.sink.now)) c.args.at (class_name c.args.class) c.args.name.now (value_of c.args.me) (map value_of c.args.given.items)
    c.in-Some-called_class.called c.from_residual.result (same ∙ ap (λ (e : Ending). Err e) c.in_err-spend.ensures.limit) c.spend.ensures.store c.in_err-spend.ensures.none.0
    (λ s n. c.in-Some-called_class.ensures.called c.args.at (value_of c.args.me) s n own)

pub returns-clause-reaches : goal.returns-clause-reaches
returns-clause-reaches g c =
    let s = g.S.Source in
    let k = g.K.Sink in
    let own : class_of (value_of c.args.me) ≡ Some c.in-Some.own = sym c.class_of.ensures ∙ c.in-Some.is in
    spent_reaches c.args.setting.now.table.now c.begin_call.result c.args.machine.now c.spend.new.self c.begin_call.new.machine (s.past c.args.source.now) (s.past c.begin_call.new.source) (seen (k.held c.args.sink.now) (k.puts c.args.sink.now)) (seen (k.held c.begin_call.new.sink) (k.puts c.begin_call.new.sink))
    c.args.at (class_name c.args.class) c.args.name.now (value_of c.args.me) (map value_of c.args.given.items) c.in-Some-called_class.called c.method_of-method.result
    c.method_of-method.ensures.method c.spend.ensures.frames c.spend.ensures.store c.spend.ensures.ended c.in_ok-spend.ensures.spent
    (λ s n. c.in-Some-called_class.ensures.called c.args.at (value_of c.args.me) s n own) c.begin_call.ensures.reaches
