use Rattle.std.proofs.Common.{◌≡◌, rules, refl, map, ◌∙◌}
use Rattle.std.specs.Prelude.{Err}
use Rattle.cool_faults.specs.Texts.{fault_line}
use Rattle.cool_ports.proofs.SeenSinks.{seen_none, seen_more, some_so_far}
use Rattle.cool_ports.specs.SinkPuts.{seen}
use Rattle.cool_session.specs.declared.ending.Interruption.TheVariants.{Memory}
use Rattle.cool_session.specs.Files.{names_of}
use Rattle.cool_session.proofs.LinesOfFaults.{line_at, line_cut, all_lines}
use Rattle.cool_session.proofs.reply.put_faults.Goals as goal

pub loop-fault-init : goal.loop-fault-init
loop-fault-init g c = record { got = seen_none _ _; no_fault = refl }

pub returns-in_err-line-clause-put : goal.returns-in_err-line-clause-put
returns-in_err-line-clause-put g c =
    let same : c.from_residual.result ≡ Err Memory = search rules in
    rw same (some_so_far _ _ _ _ c.loop-fault.invariant.got)

-- a line came in part
pub returns-in_err-put_line-clause-put : goal.returns-in_err-put_line-clause-put
returns-in_err-put_line-clause-put g c =
    let k = g.K.Sink in
    let line = fault_line (names_of c.args.names.now) in
    let faults = c.args.faults.now in
    let e = c.in_err-put_line.field-0.0 in
    let same : c.from_residual-in_err-put_line.result ≡ Err e = search rules in
    let cut = line_at line faults c.loop-fault.fault-index c.deref.result.now c.loop-fault-test.true
    (c.deref.ensures.value ∙ c.in_ok-line.ensures.line) in
    rw same
    (line_cut e (seen (k.held c.args.sink.now) (k.puts c.args.sink.now)) (seen (k.held c.loop-fault.sink) (k.puts c.loop-fault.sink)) (seen (k.held c.put_line.new.sink) (k.puts c.put_line.new.sink)) (map line faults) _ _ c.deref.result.now
    c.loop-fault.invariant.got cut c.in_err-put_line.ensures.put)

-- one more line came
pub loop-fault-preserved : goal.loop-fault-preserved
loop-fault-preserved g c =
    let k = g.K.Sink in
    let line = fault_line (names_of c.args.names.now) in
    let faults = c.args.faults.now in
    let mid = seen (k.held c.loop-fault.sink) (k.puts c.loop-fault.sink) in
    let after = seen (k.held c.put_line.new.sink) (k.puts c.put_line.new.sink) in
    let cut = line_at line faults c.loop-fault.fault-index c.deref.result.now c.loop-fault-test.true
    (c.deref.ensures.value ∙ c.in_ok-line.ensures.line) in
    record {
      got = seen_more (seen (k.held c.args.sink.now) (k.puts c.args.sink.now)) mid after (map line faults) _ c.deref.result.now (rw cut at c.loop-fault.invariant.got)
          c.in_ok-put_line.ensures.put;
      no_fault = c.in_ok-put_line.ensures.counts.1 ∙ c.loop-fault.invariant.no_fault;
    }

pub returns-clause-put : goal.returns-clause-put
returns-clause-put g c =
    all_lines (fault_line (names_of c.args.names.now)) c.args.faults.now c.loop-fault.fault-index _ _ c.loop-fault-test.false
    c.loop-fault.invariant.got
