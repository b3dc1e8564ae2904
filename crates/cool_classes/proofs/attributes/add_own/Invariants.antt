-- The loop of `add_own` has added the attributes among the features before the current one.
use Rattle.std.proofs.Common.{◌≡◌, ◌++◌, drop}
use Rattle.cool_classes.specs.Features.{own_attributes}
use Rattle.cool_classes.proofs.attributes.add_own.Given as goal

abbrev pub invariant-loop-index : goal.invariant-loop-index
invariant-loop-index l = l.attributes.items ++ own_attributes l.owner l.index (drop l.index l.features) ≡ l.fn.attributes.items ++ own_attributes l.owner 0 l.features
