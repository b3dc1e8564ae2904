-- The loop of `find_method`, which goes from a class to its ancestors, has found no method of the name in the classes that it has left.
use Rattle.std.proofs.Common.{◌<◌, length}
use Rattle.cool_classes.specs.Entries.{classes, depth_at}
use Rattle.cool_classes.proofs.Methods.{Finding}
use Rattle.cool_classes.proofs.lookup.find_method.Given as goal

abbrev pub invariant-loop-method : goal.invariant-loop-method
invariant-loop-method l = record { within : l.class.0 < length l.entries; finding : Finding (classes l.entries) l.fn.c l.class l.name }

abbrev pub decreases-loop-method : goal.decreases-loop-method
decreases-loop-method l = depth_at l.entries l.class
