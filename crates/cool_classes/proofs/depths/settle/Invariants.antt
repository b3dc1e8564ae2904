-- The loop of `settle` has stored the depths (numbers of ancestors) of class definitions from the end of the path. The rest of the path, below the current
-- depth, gives the same depths as the whole path.
use Rattle.std.proofs.Common.{◌≡◌, ◌+◌, ◌^◌, ◌<◌, ℕ, length}
use Rattle.std.specs.List.{AllByRecursion}
use Rattle.cool_classes.specs.Walks.{settled}
use Rattle.cool_classes.proofs.depths.settle.Given as goal

abbrev pub invariant-loop-class : goal.invariant-loop-class
invariant-loop-class l = record {
  same : settled l.path l.depth l.known ≡ settled l.fn.path l.fn.above l.fn.known;
  within : AllByRecursion (λ (k : ℕ). k < length l.known) l.path;
  room : l.depth + length l.path < 2 ^ 32;
}

abbrev pub decreases-loop-class : goal.decreases-loop-class
decreases-loop-class l = length l.path
