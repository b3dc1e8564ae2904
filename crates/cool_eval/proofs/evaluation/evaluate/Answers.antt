use Rattle.std.specs.Prelude.{map, string_bytes}
use Rattle.cool_ports.specs.SinkPuts.{seen}
use Rattle.cool_ports.proofs.InputsInParts.{leaves_same}
use Rattle.cool_eval.proofs.RunBegins.{short_at_start}
use Rattle.cool_eval.proofs.RunEnds.{memory_ended, memory_puts, never_no_rule}
use Rattle.cool_eval.proofs.evaluation.evaluate.Goals as goal

pub returns-in_default-clause-ends : goal.returns-in_default-clause-ends
returns-in_default-clause-ends g c = λ input rest leaves.
    let p = c.table-table.result.now in
    let steps = c.args.steps in
    let start = seen (g.K.Sink.held c.args.sink.now) (g.K.Sink.puts c.args.sink.now) in
    let short = memory_ended p (map string_bytes c.args.names.now) input (never_no_rule p c.table-table.ensures.typed input) steps start start input (short_at_start p steps start input) in
    rw (leaves_same _ input rest leaves) (rw c.table-table.ensures.table at short)

pub returns-in_default-clause-puts : goal.returns-in_default-clause-puts
returns-in_default-clause-puts g c = λ input rest leaves.
    let p = c.table-table.result.now in
    let steps = c.args.steps in
    let start = seen (g.K.Sink.held c.args.sink.now) (g.K.Sink.puts c.args.sink.now) in
    let short = memory_puts p (map string_bytes c.args.names.now) input (never_no_rule p c.table-table.ensures.typed input) steps start start input (short_at_start p steps start input) in
    rw (leaves_same _ input rest leaves) (rw c.table-table.ensures.table at short)

pub returns-in_default-new-clause-ends : goal.returns-in_default-new-clause-ends
returns-in_default-new-clause-ends g c = λ input rest leaves.
    let p = c.table-table.result.now in
    let steps = c.args.steps in
    let start = seen (g.K.Sink.held c.args.sink.now) (g.K.Sink.puts c.args.sink.now) in
    let short = memory_ended p (map string_bytes c.args.names.now) input (never_no_rule p c.table-table.ensures.typed input) steps start start input (short_at_start p steps start input) in
    rw (leaves_same _ input rest leaves) (rw c.table-table.ensures.table at short)

pub returns-in_default-new-clause-puts : goal.returns-in_default-new-clause-puts
returns-in_default-new-clause-puts g c = λ input rest leaves.
    let p = c.table-table.result.now in
    let steps = c.args.steps in
    let start = seen (g.K.Sink.held c.args.sink.now) (g.K.Sink.puts c.args.sink.now) in
    let short = memory_puts p (map string_bytes c.args.names.now) input (never_no_rule p c.table-table.ensures.typed input) steps start start input (short_at_start p steps start input) in
    rw (leaves_same _ input rest leaves) (rw c.table-table.ensures.table at short)

pub returns-in_default-layouts-clause-ends : goal.returns-in_default-layouts-clause-ends
returns-in_default-layouts-clause-ends g c = λ input rest leaves.
    let p = c.table-table.result.now in
    let steps = c.args.steps in
    let start = seen (g.K.Sink.held c.args.sink.now) (g.K.Sink.puts c.args.sink.now) in
    let short = memory_ended p (map string_bytes c.args.names.now) input (never_no_rule p c.table-table.ensures.typed input) steps start start input (short_at_start p steps start input) in
    rw (leaves_same _ input rest leaves) (rw c.table-table.ensures.table at short)

pub returns-in_default-layouts-clause-puts : goal.returns-in_default-layouts-clause-puts
returns-in_default-layouts-clause-puts g c = λ input rest leaves.
    let p = c.table-table.result.now in
    let steps = c.args.steps in
    let start = seen (g.K.Sink.held c.args.sink.now) (g.K.Sink.puts c.args.sink.now) in
    let short = memory_puts p (map string_bytes c.args.names.now) input (never_no_rule p c.table-table.ensures.typed input) steps start start input (short_at_start p steps start input) in
    rw (leaves_same _ input rest leaves) (rw c.table-table.ensures.table at short)

pub returns-clause-ends : goal.returns-clause-ends
returns-clause-ends g c = λ input rest leaves.
    let p = c.table-table.result.now in
    let never = never_no_rule p c.table-table.ensures.typed input in
    rw c.table-table.ensures.table at (c.finish.ensures.ends input c.args.steps (seen (g.K.Sink.held c.args.sink.now) (g.K.Sink.puts c.args.sink.now)) rest never (c.run-end.ensures.ends input rest leaves))

pub returns-clause-puts : goal.returns-clause-puts
returns-clause-puts g c = λ input rest leaves.
    let p = c.table-table.result.now in
    let never = never_no_rule p c.table-table.ensures.typed input in
    rw c.table-table.ensures.table at (c.finish.ensures.puts input c.args.steps (seen (g.K.Sink.held c.args.sink.now) (g.K.Sink.puts c.args.sink.now)) rest never (c.run-end.ensures.ends input rest leaves))
