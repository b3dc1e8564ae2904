use Rattle.std.proofs.Common.{arith, refl}
use Rattle.cool_ports.proofs.AskedNames.{asked_none}
use Rattle.cool_driver.specs.{Comes.{Comes}, commands.Big.{DueToBig, PiecesOfBig}}
use Rattle.cool_driver.proofs.{ComesOfRefusals.{put_goes}, DevicesOfCalls.{got_nothing, short_goes}, Doings.{untaking_does}, LinesOfNotes.{no_lines}, rooms.Bigs.{big_ends}}
use Rattle.cool_driver.proofs.commands.big.sum_up.Goals as goal

-- the line was made
pub returns-in-Ok : goal.returns-in-Ok
returns-in-Ok g c shelf input notes =
    untaking_does refl (asked_none _ _) (no_lines _) (λ _. tt) (λ words given.
    put_goes (λ s. big_ends) refl refl (DueToBig.summed _ c.in-Ok.ensures refl) (PiecesOfBig.of_line _ c.in-Ok.ensures refl) (got_nothing _ _)
    (rw c.as_bytes.ensures.value at c.write_pieces.ensures.noted))

-- memory ran out for it
pub returns-in-Err : goal.returns-in-Err
returns-in-Err g c shelf input notes =
    untaking_does refl (asked_none _ _) (no_lines _) (λ _. tt) (λ words given.
    short_goes (omega arith) (refl, refl) refl (big_ends (Comes.short (got_nothing _ _, got_nothing _ _, refl, refl))))
