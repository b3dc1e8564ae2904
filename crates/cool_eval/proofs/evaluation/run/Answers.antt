use Rattle.std.proofs.Common.{◌≡◌, false, refl, Err, ◌∙◌, [], rules}
use Rattle.cool_ports.specs.SinkPuts.{seen}
use Rattle.cool_ports.proofs.InputsInParts.{took_nothing, took_both, in_two, leaves_same}
use Rattle.cool_eval.proofs.RunBegins.{so_begun, begun_ends}
use Rattle.cool_eval.proofs.RunSoFar.{stands, goes_on, ends_well, ends, ends_here, none_left, front_taken}
use Rattle.cool_eval.proofs.evaluation.run.Goals as goal

pub returns-in_err-focus-clause-ends : goal.returns-in_err-focus-clause-ends
returns-in_err-focus-clause-ends g c =
    let same : c.from_residual.result ≡ Err c.in_err-focus.field-0.0 = search rules in
    λ input rest leaves.
    rw (same, leaves_same _ input rest leaves)
    (begun_ends c.args.setting.now.table.now c.args.steps (seen (g.K.Sink.held c.args.sink.now) (g.K.Sink.puts c.args.sink.now)) input (record { frames = c.new.result; store = c.new-2.result; left = c.args.steps; ended = false }) c.args.main.now c.args.method.now
    c.requires.main c.requires.method c.new.ensures.items c.new-2.ensures.values c.new-2.ensures.drawn refl c.in_err-focus.field-0.0 c.first.new.machine (c.in_err-focus.ensures.comes input []))

pub loop-init : goal.loop-init
loop-init g c = record {
  took = rw c.in_ok-focus.ensures.ended (took_nothing _ _ _);
  so_far = λ input middle leaves.
      rw (leaves_same _ input middle leaves)
      (so_begun c.args.setting.now.table.now c.args.steps (seen (g.K.Sink.held c.args.sink.now) (g.K.Sink.puts c.args.sink.now)) input (record { frames = c.new.result; store = c.new-2.result; left = c.args.steps; ended = false }) c.args.main.now c.args.method.now
      c.requires.main c.requires.method c.new.ensures.items c.new-2.ensures.values c.new-2.ensures.drawn refl c.in_ok-focus.focus c.first.new.machine (c.in_ok-focus.ensures.comes input []));
  source = refl;
  sink = refl;
}

pub returns-in_err-next-clause-took : goal.returns-in_err-next-clause-took
returns-in_err-next-clause-took g c = (c.step.new.machine.ended, took_both _ _ _ _ _ _ _ _ _ c.loop.invariant.took c.step.ensures.took)

pub returns-in_err-next-clause-ends : goal.returns-in_err-next-clause-ends
returns-in_err-next-clause-ends g c =
    let same : c.from_residual-in_err-next.result ≡ Err c.in_err-next.field-0.0 = search rules in
    let i = c.loop.invariant in
    λ input rest leaves.
    let two = in_two _ _ _ _ _ _ _ _ _ input rest i.took c.step.ensures.took leaves in
    let h = i.so_far input two.middle two.before in
    let none = none_left c.loop.machine.ended _ _ _ _ input two.middle i.took two.before in
    let stand = stands c.args.setting.now.table.now c.args.steps _ input two.middle c.loop.focus c.loop.machine _ h in
    let steps = c.in_err-next.ensures.reaches (seen (g.K.Sink.held c.args.sink.now) (g.K.Sink.puts c.loop.sink)) h.now two.middle rest stand two.later none in
    let taken = front_taken _ _ _ _ _ _ two.middle rest c.step.ensures.took two.later in
    rw same (ends c.args.setting.now.table.now c.args.steps _ input two.middle c.loop.focus c.loop.machine _ h c.in_err-next.field-0.0 c.step.new.machine _ rest _ taken c.in_err-next.ensures.spent steps)

pub returns-in-None-clause-took : goal.returns-in-None-clause-took
returns-in-None-clause-took g c = (c.step.new.machine.ended, took_both _ _ _ _ _ _ _ _ _ c.loop.invariant.took c.step.ensures.took)

pub returns-in-None-clause-ends : goal.returns-in-None-clause-ends
returns-in-None-clause-ends g c =
    let i = c.loop.invariant in
    λ input rest leaves.
    let two = in_two _ _ _ _ _ _ _ _ _ input rest i.took c.step.ensures.took leaves in
    let h = i.so_far input two.middle two.before in
    let none = none_left c.loop.machine.ended _ _ _ _ input two.middle i.took two.before in
    let stand = stands c.args.setting.now.table.now c.args.steps _ input two.middle c.loop.focus c.loop.machine _ h in
    let steps = rw c.in-None.is at (c.in_ok-next.ensures.reaches (seen (g.K.Sink.held c.args.sink.now) (g.K.Sink.puts c.loop.sink)) h.now two.middle rest stand two.later none) in
    ends_well c.args.setting.now.table.now c.args.steps _ input two.middle c.loop.focus c.loop.machine _ h c.step.new.machine rest _ steps

pub loop-preserved : goal.loop-preserved
loop-preserved g c =
    let i = c.loop.invariant in
    record {
      took = took_both _ _ _ _ _ _ _ _ _ i.took c.step.ensures.took;
      so_far = λ input rest leaves.
          let two = in_two _ _ _ _ _ _ _ _ _ input rest i.took c.step.ensures.took leaves in
          let h = i.so_far input two.middle two.before in
          let none = none_left c.loop.machine.ended _ _ _ _ input two.middle i.took two.before in
          let stand = stands c.args.setting.now.table.now c.args.steps _ input two.middle c.loop.focus c.loop.machine _ h in
          let steps = rw c.in-Some.is at (c.in_ok-next.ensures.reaches (seen (g.K.Sink.held c.args.sink.now) (g.K.Sink.puts c.loop.sink)) h.now two.middle rest stand two.later none) in
          goes_on c.args.setting.now.table.now c.args.steps _ input two.middle c.loop.focus c.loop.machine _ h c.in-Some.next c.step.new.machine rest _ steps;
      source = c.in_ok-next.ensures.counts.0 ∙ i.source;
      sink = c.in_ok-next.ensures.counts.1 ∙ i.sink;
    }

pub returns-clause-ends : goal.returns-clause-ends
returns-clause-ends g c =
    let i = c.loop.invariant in
    λ input rest leaves. ends_here c.args.setting.now.table.now c.args.steps _ input rest c.loop.focus c.loop.machine _ (i.so_far input rest leaves)
