-- In the loop of `feature_ids`, the features so far, followed by those of the classes that are left, are all features of the table.
use Rattle.std.proofs.Common.{◌≡◌, ◌++◌, drop}
use Rattle.cool_session.specs.Ids.{ids_from, ids}
use Rattle.cool_session.proofs.ids.feature_ids.Given as goal

abbrev pub invariant-loop-number : goal.invariant-loop-number
invariant-loop-number l = record {
  left : l.all.items ++ ids_from l.number (drop l.number l.t) ≡ ids l.t;
}
