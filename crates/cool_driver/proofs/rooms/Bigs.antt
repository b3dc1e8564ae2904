-- A call of `big` that wrote its line about a generated program, or failed to write it, satisfies the postcondition `BigEnds` of the command.
use Rattle.std.proofs.Common.{List, refl, ℕ, ◌≡◌}
use Rattle.cool_driver.specs.{Calls.{Call, Request}, Comes.{Comes}, commands.Big.{BigEnds, DueToBig, IsBigLine, PiecesOfBig}}
use Rattle.cool_driver.proofs.DevicesOfCalls.{came}

-- the result that is due is its line, with status 0
summed_so : {n : ℕ} {r : Request} {status : ℕ} {output note left : List ℕ} → DueToBig n r status output note left → (status ≡ 0) × IsBigLine n output
summed_so (DueToBig.summed line is calm) = (refl, is)

-- so it ends as it should
pub big_ends : {n : ℕ} {c : Call} {status : ℕ} → Comes (DueToBig n c.request) (PiecesOfBig n c.request) c status → BigEnds n c status
big_ends comes = record {
  comes = comes;
  summed_exactly = λ eight nine.
      let (output, note, row, out, notes) = came comes eight nine in
      let so = summed_so row in
      (so.0, output, so.1, out);
}
