-- In the loop of `position`, none of the first i tokens is at the source location.
use Rattle.std.proofs.Common.{◌≡◌, ℕ, ◌<◌}
use Rattle.cool_session.specs.KeptFaults.{place_of_token}
use Rattle.cool_session.proofs.typed.position.Given as goal

abbrev pub invariant-loop-i : goal.invariant-loop-i
invariant-loop-i l = (k : ℕ) → k < l.i → l.at ≡ place_of_token l.tokens k → ⊥
