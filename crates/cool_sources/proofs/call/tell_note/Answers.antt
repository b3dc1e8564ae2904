-- `tell_note` writes the message if there is one, and returns the given status, or that of a failed write.
use Rattle.std.proofs.Common.{refl}
use Rattle.cool_sources.proofs.OutcomesWritten.{no_bytes, some_bytes, told_none, told_some}
use Rattle.cool_sources.specs.Devices.{sink_use}
use Rattle.cool_sources.proofs.call.tell_note.Goals as goal

pub returns-then-is_empty : goal.returns-then-is_empty
returns-then-is_empty g c =
    told_none c.args.status c.args.note.now (sink_use g.E.Sink.held g.E.Sink.faults g.E.Sink.puts c.args.notes.now c.args.notes.now)
    (no_bytes c.args.note.now c.if-is_empty.ensures) refl refl refl

pub returns : goal.returns
returns g c =
    let told = c.tell.ensures in
    told_some c.args.status c.tell.result c.args.note.now (sink_use g.E.Sink.held g.E.Sink.faults g.E.Sink.puts c.args.notes.now c.tell.new.notes)
    (some_bytes c.args.note.now c.if-is_empty.ensures) c.requires told.statuses told.note told.no_fault told.write_fault told.prefix told.put
