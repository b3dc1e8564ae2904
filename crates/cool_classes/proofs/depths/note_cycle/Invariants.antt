-- The loop of `note_cycle` has added class definitions of a cycle of inheritance: together with those left on the path they are the whole cycle.
use Rattle.std.proofs.Common.{◌≡◌, ◌++◌, length}
use Rattle.cool_classes.specs.Walks.{cycle_of}
use Rattle.cool_classes.proofs.depths.note_cycle.Given as goal

abbrev pub invariant-loop-class : goal.invariant-loop-class
invariant-loop-class l = l.cyclic.items ++ cycle_of l.first l.path ≡ l.fn.cyclic.items ++ cycle_of l.first l.fn.path

abbrev pub decreases-loop-class : goal.decreases-loop-class
decreases-loop-class l = length l.path
