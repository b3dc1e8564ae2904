-- `class_table` returns the class table that `class_phase` (the front end up to the class table) builds for the files, if it does not reject them.
use Rattle.std.proofs.Common.{refl, subst}
use Rattle.cool_faults.specs.Files.{bytes_of}
use Rattle.cool_faults.specs.Untyped.{IsClassVerdict}
use Rattle.cool_mend.proofs.types.class_table.Goals as goal

pub returns-in-Untyped : goal.returns-in-Untyped
returns-in-Untyped c = (_, subst (IsClassVerdict (bytes_of c.args.files.now)) c.in-Untyped.is c.in_ok-untyped.ensures.verdict, refl)
