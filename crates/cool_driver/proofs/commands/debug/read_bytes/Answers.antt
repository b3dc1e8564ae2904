use Rattle.std.proofs.Common.{ap}
use Rattle.std.specs.Prelude.{Err}
use Rattle.cool_driver.specs.Calls.{shelf_use}
use Rattle.cool_sources.proofs.FilesRead.{cause_of}
use Rattle.cool_driver.proofs.rooms.Debuggings.{script_told}
use Rattle.cool_driver.proofs.commands.debug.read_bytes.Goals as goal

-- the script was refused
pub returns-in_default-clause-refused : goal.returns-in_default-clause-refused
returns-in_default-clause-refused g c =
    let read = c.in-Err.ensures in
    script_told (shelf_use g.F.Shelf c.args.files.now c.read.new.self) c.args.script.now c.in-Err.fault c.refuse_unread.result (_, c.read.ensures.asked)
    (cause_of _ _ _ c.args.script.now _ c.in-Err.fault (λ e. read.missing (ap Err e)) (λ e. read.too_large (ap Err e)) (λ e. read.failed (ap Err e)) c.in_default.not-Memory)
    c.refuse_unread.ensures
