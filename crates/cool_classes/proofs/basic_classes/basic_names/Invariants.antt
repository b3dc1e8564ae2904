-- The loop of `basic_names` has added the names of the basic classes before the current one.
use Rattle.std.proofs.Common.{take}
use Rattle.cool_classes.specs.FirstNames.{FindsNames}
use Rattle.cool_classes.specs.Settled.{basic_names}
use Rattle.cool_classes.proofs.basic_classes.basic_names.Given as goal

abbrev pub invariant-loop-class : goal.invariant-loop-class
invariant-loop-class l = FindsNames l.names.entries (take l.class basic_names)
