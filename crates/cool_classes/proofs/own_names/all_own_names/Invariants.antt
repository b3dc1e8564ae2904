-- The loop of `all_own_names` has added the names of the features of the classes before the current one.
use Rattle.cool_classes.specs.OwnNames.{AreAllOwn}
use Rattle.cool_classes.specs.Entries.{classes}
use Rattle.cool_classes.proofs.own_names.all_own_names.Given as goal

abbrev pub invariant-loop-index : goal.invariant-loop-index
invariant-loop-index l = AreAllOwn l.index l.all.items (classes l.entries)
