-- In the loop of `add_ids`, the features added so far, followed by those that are left, are all features of the class.
use Rattle.std.proofs.Common.{◌≡◌, ◌++◌, drop}
use Rattle.cool_session.specs.Ids.{ids_in}
use Rattle.cool_session.proofs.ids.add_ids.Given as goal

abbrev pub invariant-loop-i : goal.invariant-loop-i
invariant-loop-i l = record {
  left : l.all.items ++ ids_in l.c l.i (drop l.i l.features) ≡ l.fn.all.items ++ ids_in l.c 0 l.features;
}
