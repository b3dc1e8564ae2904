-- In the loop of `back_of`, the last i tokens of both lists have the same kinds.
use Rattle.std.proofs.Common.{◌≡◌, ◌≤◌, ◌-◌, length, drop}
use Rattle.cool_session.specs.FeatureTokens.{kinds}
use Rattle.cool_session.proofs.difference.back_of.Given as goal

abbrev pub invariant-loop-i : goal.invariant-loop-i
invariant-loop-i l = record {
  within : l.i ≤ length l.b;
  same : kinds (drop (length l.a - l.i) l.a) ≡ kinds (drop (length l.b - l.i) l.b);
}
