-- In the loop of `same_features`, the first i features of both lists have the same signatures.
use Rattle.std.proofs.Common.{◌≡◌, take, map}
use Rattle.cool_session.specs.Signatures.{feature_signature}
use Rattle.cool_session.proofs.same_classes.same_features.Given as goal

abbrev pub invariant-loop-i : goal.invariant-loop-i
invariant-loop-i l = map feature_signature (take l.i l.a) ≡ map feature_signature (take l.i l.b)
