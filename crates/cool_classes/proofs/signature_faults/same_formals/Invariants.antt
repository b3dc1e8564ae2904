-- The loop of `same_formals` has found no difference yet: the formal parameters from the current one on declare the same types exactly if all do.
use Rattle.std.proofs.Common.{◌≡◌, drop}
use Rattle.cool_classes.specs.FeatureFaults.{same_types, declared_types}
use Rattle.cool_classes.proofs.signature_faults.same_formals.Given as goal

abbrev pub invariant-loop-index : goal.invariant-loop-index
invariant-loop-index l = same_types (declared_types (drop l.index l.left)) (declared_types (drop l.index l.right)) ≡ same_types (declared_types l.left) (declared_types l.right)
