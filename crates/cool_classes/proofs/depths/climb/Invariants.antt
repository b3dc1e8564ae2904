-- The loop of `climb` has followed parents from the first class definition to the current one, and has marked the definitions on this path as visited.
use Rattle.cool_classes.specs.Walks.{unpassed}
use Rattle.cool_classes.proofs.PassingDefinitions.{Climbing}
use Rattle.cool_classes.proofs.depths.climb.Given as goal

abbrev pub invariant-loop-class : goal.invariant-loop-class
invariant-loop-class l = Climbing l.parents l.fn.passed l.start l.passed l.path l.class

abbrev pub decreases-loop-class : goal.decreases-loop-class
decreases-loop-class l = unpassed l.passed
