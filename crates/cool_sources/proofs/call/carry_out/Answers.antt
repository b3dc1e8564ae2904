-- `carry_out` writes the output text and then the message, or returns the status of a failed write, as the specification of a call's end demands.
use Rattle.std.proofs.Common.{refl}
use Rattle.cool_sources.proofs.OutcomesWritten.{done_cut, done_whole, got_nothing}
use Rattle.cool_sources.specs.Devices.{sink_use}
use Rattle.cool_sources.specs.Notes.{note_text}
use Rattle.cool_sources.proofs.call.carry_out.Goals as goal

pub returns-in-Ok : goal.returns-in-Ok
returns-in-Ok g c =
    done_whole c.args.due.now.status c.tell_note.result c.args.due.now.text.items (note_text c.args.due.now.note) c.deref.result.now c.bytes.result.now
    (sink_use g.O.Sink.held g.O.Sink.faults g.O.Sink.puts c.args.out.now c.put_pieces.new.sink)
    (sink_use g.E.Sink.held g.E.Sink.faults g.E.Sink.puts c.args.notes.now c.tell_note.new.notes)
    c.deref.ensures.value c.bytes.ensures c.in-Ok.ensures.no_fault c.in-Ok.ensures.put c.in-Ok.ensures.pieces c.tell_note.ensures

pub returns-in-Err : goal.returns-in-Err
returns-in-Err g c =
    done_cut c.args.due.now.status c.args.due.now.text.items (note_text c.args.due.now.note) c.deref.result.now
    (sink_use g.O.Sink.held g.O.Sink.faults g.O.Sink.puts c.args.out.now c.put_pieces.new.sink)
    (sink_use g.E.Sink.held g.E.Sink.faults g.E.Sink.puts c.args.notes.now c.args.notes.now)
    c.deref.ensures.value c.in-Err.ensures.failed c.in-Err.ensures.prefix c.in-Err.ensures.pieces_up_to (got_nothing _ refl refl refl)
