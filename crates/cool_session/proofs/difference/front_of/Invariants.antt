-- In the loop of `front_of`, the first i tokens of both lists have the same kinds.
use Rattle.std.proofs.Common.{◌≡◌, ◌≤◌, length, take}
use Rattle.cool_session.specs.FeatureTokens.{kinds}
use Rattle.cool_session.proofs.difference.front_of.Given as goal

abbrev pub invariant-loop-i : goal.invariant-loop-i
invariant-loop-i l = record {
  within : l.i ≤ length l.b;
  same : kinds (take l.i l.a) ≡ kinds (take l.i l.b);
}
