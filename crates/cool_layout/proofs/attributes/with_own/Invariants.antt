-- The loop of `with_own` has added the attributes among the features before the current one.
use Rattle.std.proofs.Common.{◌≡◌, ◌++◌, drop}
use Rattle.cool_classes.specs.Features.{own_attributes}
use Rattle.cool_layout.proofs.attributes.with_own.Given as goal

abbrev pub invariant-loop-index : goal.invariant-loop-index
invariant-loop-index l = l.all.items ++ own_attributes l.class l.index (drop l.index l.features) ≡ l.above ++ own_attributes l.class 0 l.features
