-- The loop of `chain` has added the classes from the first one up to the current one, without the current one.
use Rattle.std.proofs.Common.{◌<◌, length}
use Rattle.cool_classes.specs.Entries.{classes, depth_at}
use Rattle.cool_classes.proofs.Climbs.{Noting}
use Rattle.cool_classes.proofs.climbing.chain.Given as goal

abbrev pub invariant-loop-above : goal.invariant-loop-above
invariant-loop-above l = record { within : l.class.0 < length l.entries; noting : Noting (classes l.entries) l.fn.c l.class l.ids.items }

abbrev pub decreases-loop-above : goal.decreases-loop-above
decreases-loop-above l = depth_at l.entries l.class
