-- In the loop of `same_tokens`, the first i tokens of both lists have the same kinds.
use Rattle.std.proofs.Common.{◌≡◌, take}
use Rattle.cool_session.specs.FeatureTokens.{kinds}
use Rattle.cool_session.proofs.same_tokens.same_tokens.Given as goal

abbrev pub invariant-loop-i : goal.invariant-loop-i
invariant-loop-i l = kinds (take l.i l.a) ≡ kinds (take l.i l.b)
