use Rattle.std.proofs.Common.{◌≡◌, Err, ap, ◌∙◌}
use Rattle.cool_ports.specs.SinkPuts.{seen}
use Rattle.cool_eval.specs.declared.ending.Ending.TheVariants as ending
use Rattle.cool_eval.proofs.RunEnds.{done_put, done_cut, error_put, error_cut, error_none, limit_ended, read_ended, write_ended, memory_ended, done_puts, done_front, error_puts, error_front, error_short, limit_puts, read_puts, write_puts, memory_puts}
use Rattle.cool_eval.proofs.report.finish.Goals as goal

pub returns-in-Ok-print-clause-ends : goal.returns-in-Ok-print-clause-ends
returns-in-Ok-print-clause-ends g c = λ input steps start rest never h.
    done_put _ _ input steps start (seen (g.K.Sink.held c.args.sink.now) (g.K.Sink.puts c.args.sink.now)) _ rest (rw c.in-Ok.is at h) c.in-Ok-print.ensures.put

pub returns-in-Ok-print-clause-puts : goal.returns-in-Ok-print-clause-puts
returns-in-Ok-print-clause-puts g c = λ input steps start rest never h.
    done_puts _ _ input never steps start (seen (g.K.Sink.held c.args.sink.now) (g.K.Sink.puts c.args.sink.now)) rest _ (rw c.in-Ok.is at h) c.in-Ok-print.ensures.pieces

pub returns-in-Ok-clause-ends : goal.returns-in-Ok-clause-ends
returns-in-Ok-clause-ends g c = λ input steps start rest never h.
    done_cut _ _ input steps start (seen (g.K.Sink.held c.args.sink.now) (g.K.Sink.puts c.args.sink.now)) _ rest (rw c.in-Ok.is at h) c.in-Err.ensures.prefix

pub returns-in-Ok-clause-puts : goal.returns-in-Ok-clause-puts
returns-in-Ok-clause-puts g c = λ input steps start rest never h.
    done_front _ _ input never steps start (seen (g.K.Sink.held c.args.sink.now) (g.K.Sink.puts c.args.sink.now)) rest _ (rw c.in-Ok.is at h) c.in-Err.ensures.pieces_up_to

pub returns-in_default-clause-ends : goal.returns-in_default-clause-ends
returns-in_default-clause-ends g c = λ input steps start rest never h.
    let is : c.args.end ≡ Err (ending.Error c.in-Err-Error.error) = c.in-Err-Error.is ∙ ap Err (rw c.in-Err-Error.is at c.in-Err-Error.field-0-is) in
    error_none _ _ input steps start (seen (g.K.Sink.held c.args.sink.now) (g.K.Sink.puts c.args.sink.now)) rest c.in-Err-Error.error (rw is at h)

pub returns-in_default-clause-puts : goal.returns-in_default-clause-puts
returns-in_default-clause-puts g c = λ input steps start rest never h.
    let is : c.args.end ≡ Err (ending.Error c.in-Err-Error.error) = c.in-Err-Error.is ∙ ap Err (rw c.in-Err-Error.is at c.in-Err-Error.field-0-is) in
    error_short _ _ input never steps start (seen (g.K.Sink.held c.args.sink.now) (g.K.Sink.puts c.args.sink.now)) rest c.in-Err-Error.error (rw is at h)

pub returns-in-Ok-print-2-clause-ends : goal.returns-in-Ok-print-2-clause-ends
returns-in-Ok-print-2-clause-ends g c = λ input steps start rest never h.
    let is : c.args.end ≡ Err (ending.Error c.in-Err-Error.error) = c.in-Err-Error.is ∙ ap Err (rw c.in-Err-Error.is at c.in-Err-Error.field-0-is) in
    error_put _ _ input steps start (seen (g.K.Sink.held c.args.sink.now) (g.K.Sink.puts c.args.sink.now)) _ rest c.in-Err-Error.error (rw is at h) (rw (c.as_slice.ensures.value, c.in-Ok-error_text.ensures) at c.in-Ok-print-2.ensures.put)

pub returns-in-Ok-print-2-clause-puts : goal.returns-in-Ok-print-2-clause-puts
returns-in-Ok-print-2-clause-puts g c = λ input steps start rest never h.
    let is : c.args.end ≡ Err (ending.Error c.in-Err-Error.error) = c.in-Err-Error.is ∙ ap Err (rw c.in-Err-Error.is at c.in-Err-Error.field-0-is) in
    error_puts _ _ input never steps start (seen (g.K.Sink.held c.args.sink.now) (g.K.Sink.puts c.args.sink.now)) rest _ c.in-Err-Error.error (rw is at h) (rw (c.as_slice.ensures.value, c.in-Ok-error_text.ensures) at c.in-Ok-print-2.ensures.pieces)

pub returns-in-Err-Error-clause-ends : goal.returns-in-Err-Error-clause-ends
returns-in-Err-Error-clause-ends g c = λ input steps start rest never h.
    let is : c.args.end ≡ Err (ending.Error c.in-Err-Error.error) = c.in-Err-Error.is ∙ ap Err (rw c.in-Err-Error.is at c.in-Err-Error.field-0-is) in
    error_cut _ _ input steps start (seen (g.K.Sink.held c.args.sink.now) (g.K.Sink.puts c.args.sink.now)) _ rest c.in-Err-Error.error (rw is at h) (rw (c.as_slice.ensures.value, c.in-Ok-error_text.ensures) at c.in-Err-print.ensures.prefix)

pub returns-in-Err-Error-clause-puts : goal.returns-in-Err-Error-clause-puts
returns-in-Err-Error-clause-puts g c = λ input steps start rest never h.
    let is : c.args.end ≡ Err (ending.Error c.in-Err-Error.error) = c.in-Err-Error.is ∙ ap Err (rw c.in-Err-Error.is at c.in-Err-Error.field-0-is) in
    error_front _ _ input never steps start (seen (g.K.Sink.held c.args.sink.now) (g.K.Sink.puts c.args.sink.now)) rest _ c.in-Err-Error.error (rw is at h) (rw (c.as_slice.ensures.value, c.in-Ok-error_text.ensures) at c.in-Err-print.ensures.pieces_up_to)

pub returns-in-Err-StepLimit-clause-ends : goal.returns-in-Err-StepLimit-clause-ends
returns-in-Err-StepLimit-clause-ends g c = λ input steps start rest never h.
    let is : c.args.end ≡ Err ending.StepLimit = c.in-Err-StepLimit.is ∙ ap Err (rw c.in-Err-StepLimit.is at c.in-Err-StepLimit.field-0-is) in
    limit_ended _ _ input never steps start (seen (g.K.Sink.held c.args.sink.now) (g.K.Sink.puts c.args.sink.now)) rest (rw is at h)

pub returns-in-Err-StepLimit-clause-puts : goal.returns-in-Err-StepLimit-clause-puts
returns-in-Err-StepLimit-clause-puts g c = λ input steps start rest never h.
    let is : c.args.end ≡ Err ending.StepLimit = c.in-Err-StepLimit.is ∙ ap Err (rw c.in-Err-StepLimit.is at c.in-Err-StepLimit.field-0-is) in
    limit_puts _ _ input never steps start (seen (g.K.Sink.held c.args.sink.now) (g.K.Sink.puts c.args.sink.now)) rest (rw is at h)

pub returns-in-Err-ReadFault-clause-ends : goal.returns-in-Err-ReadFault-clause-ends
returns-in-Err-ReadFault-clause-ends g c = λ input steps start rest never h.
    let is : c.args.end ≡ Err ending.ReadFault = c.in-Err-ReadFault.is ∙ ap Err (rw c.in-Err-ReadFault.is at c.in-Err-ReadFault.field-0-is) in
    read_ended _ _ input never steps start (seen (g.K.Sink.held c.args.sink.now) (g.K.Sink.puts c.args.sink.now)) rest (rw is at h)

pub returns-in-Err-ReadFault-clause-puts : goal.returns-in-Err-ReadFault-clause-puts
returns-in-Err-ReadFault-clause-puts g c = λ input steps start rest never h.
    let is : c.args.end ≡ Err ending.ReadFault = c.in-Err-ReadFault.is ∙ ap Err (rw c.in-Err-ReadFault.is at c.in-Err-ReadFault.field-0-is) in
    read_puts _ _ input never steps start (seen (g.K.Sink.held c.args.sink.now) (g.K.Sink.puts c.args.sink.now)) rest (rw is at h)

pub returns-in-Err-WriteFault-clause-ends : goal.returns-in-Err-WriteFault-clause-ends
returns-in-Err-WriteFault-clause-ends g c = λ input steps start rest never h.
    let is : c.args.end ≡ Err ending.WriteFault = c.in-Err-WriteFault.is ∙ ap Err (rw c.in-Err-WriteFault.is at c.in-Err-WriteFault.field-0-is) in
    write_ended _ _ input never steps start (seen (g.K.Sink.held c.args.sink.now) (g.K.Sink.puts c.args.sink.now)) rest (rw is at h)

pub returns-in-Err-WriteFault-clause-puts : goal.returns-in-Err-WriteFault-clause-puts
returns-in-Err-WriteFault-clause-puts g c = λ input steps start rest never h.
    let is : c.args.end ≡ Err ending.WriteFault = c.in-Err-WriteFault.is ∙ ap Err (rw c.in-Err-WriteFault.is at c.in-Err-WriteFault.field-0-is) in
    write_puts _ _ input never steps start (seen (g.K.Sink.held c.args.sink.now) (g.K.Sink.puts c.args.sink.now)) rest (rw is at h)

pub returns-in-Err-Memory-clause-ends : goal.returns-in-Err-Memory-clause-ends
returns-in-Err-Memory-clause-ends g c = λ input steps start rest never h.
    let is : c.args.end ≡ Err ending.Memory = c.in-Err-Memory.is ∙ ap Err (rw c.in-Err-Memory.is at c.in-Err-Memory.field-0-is) in
    memory_ended _ _ input never steps start (seen (g.K.Sink.held c.args.sink.now) (g.K.Sink.puts c.args.sink.now)) rest (rw is at h)

pub returns-in-Err-Memory-clause-puts : goal.returns-in-Err-Memory-clause-puts
returns-in-Err-Memory-clause-puts g c = λ input steps start rest never h.
    let is : c.args.end ≡ Err ending.Memory = c.in-Err-Memory.is ∙ ap Err (rw c.in-Err-Memory.is at c.in-Err-Memory.field-0-is) in
    memory_puts _ _ input never steps start (seen (g.K.Sink.held c.args.sink.now) (g.K.Sink.puts c.args.sink.now)) rest (rw is at h)
