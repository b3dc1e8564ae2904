-- The loop of `own_names` has added the names of the features before the current one.
use Rattle.std.proofs.Common.{take}
use Rattle.cool_classes.specs.OwnNames.{AreOwn}
use Rattle.cool_classes.proofs.own_names.own_names.Given as goal

abbrev pub invariant-loop-index : goal.invariant-loop-index
invariant-loop-index l = AreOwn l.own (take l.index l.features)
