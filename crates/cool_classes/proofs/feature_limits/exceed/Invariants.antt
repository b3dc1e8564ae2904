-- The loop of `exceed`, which tests whether counts add up to more than a limit, has subtracted the counts of the classes before the current one from the limit.
use Rattle.std.proofs.Common.{◌≡◌, ◌+◌, ◌<◌, length, drop}
use Rattle.std.specs.List.{AllByRecursion}
use Rattle.cool_classes.specs.Lineages.{sum_at}
use Rattle.cool_classes.proofs.feature_limits.exceed.Given as goal

abbrev pub invariant-loop-index : goal.invariant-loop-index
invariant-loop-index l = record {
  left : l.left + sum_at l.counts l.above ≡ l.most + sum_at l.counts (drop l.index l.above);
  within : AllByRecursion (λ c. c.0 < length l.counts) (drop l.index l.above);
}
