-- `position_to_set` returns the result of `place_for` for the number of bytes: the limits depend only on the length of a file.
use Rattle.std.proofs.Common.{map, string_bytes, length, replicate, sym}
use Rattle.std.proofs.lemmas.List.{length-replicate}
use Rattle.cool_faults.specs.Files.{bytes_of}
use Rattle.cool_session.proofs.FilesSet.{room_by_length}
use Rattle.cool_session.proofs.files.position_to_set.Goals as goal

pub returns-clause-fits : goal.returns-clause-fits
returns-clause-fits c =
    let bytes = c.args.bytes.now in
    rw (room_by_length (map string_bytes c.args.names.now) (bytes_of c.args.files.now) c.args.name.now bytes (replicate (length bytes) 0)
    (sym (length-replicate (length bytes) 0)))
    c.place_for.ensures.fits

pub returns-clause-refused : goal.returns-clause-refused
returns-clause-refused c =
    let bytes = c.args.bytes.now in
    rw (room_by_length (map string_bytes c.args.names.now) (bytes_of c.args.files.now) c.args.name.now bytes (replicate (length bytes) 0)
    (sym (length-replicate (length bytes) 0)))
    c.place_for.ensures.refused
