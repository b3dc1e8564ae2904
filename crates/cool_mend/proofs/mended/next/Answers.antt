-- `next` passes the next error after an edit if the given error from before the edit becomes that error, and passes none otherwise.
use Rattle.std.proofs.Common.{arith, refl}
use Rattle.cool_mend.proofs.FaultsPassed.{next_kept}
use Rattle.cool_mend.proofs.PartsOfLists.{part_left}
use Rattle.cool_mend.proofs.mended.next.Goals as goal

pub returns-then-becomes-clause-part : goal.returns-then-becomes-clause-part
returns-then-becomes-clause-part c = λ earlier part. next_kept _ _ _ _ _ earlier (omega (arith, c.if-found-after.true)) refl (c.becomes.ensures c.if-becomes.true) part

pub returns-else-found-after-clause-part : goal.returns-else-found-after-clause-part
returns-else-found-after-clause-part c = λ earlier part. part_left _ _ _ part
