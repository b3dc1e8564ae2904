-- The loop of `fit_basic` has found no difference yet: the formal parameters from the current one on have the types of those of the basic method exactly if all
-- have.
use Rattle.std.proofs.Common.{◌≡◌, drop, map}
use Rattle.cool_classes.specs.Chains.{name_of}
use Rattle.cool_classes.specs.FeatureFaults.{declared_types, same_types}
use Rattle.cool_classes.specs.Tables.{basic_classes}
use Rattle.cool_classes.proofs.basic_methods.fit_basic.Given as goal

abbrev pub invariant-loop-index : goal.invariant-loop-index
invariant-loop-index l = same_types (declared_types (drop l.index l.formals)) (map (name_of basic_classes) (drop l.index l.wanted)) ≡ same_types (declared_types l.formals) (map (name_of basic_classes) l.wanted)
