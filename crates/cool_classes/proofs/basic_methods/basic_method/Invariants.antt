-- The loop of `basic_method` has not found the name yet: searching only the methods from the current one on gives the same result as searching all of them.
use Rattle.std.proofs.Common.{◌≡◌, drop}
use Rattle.cool_classes.specs.BasicMethods.{named_methods}
use Rattle.cool_classes.specs.Features.{method_among}
use Rattle.cool_classes.proofs.basic_methods.basic_method.Given as goal

abbrev pub invariant-loop-index : goal.invariant-loop-index
invariant-loop-index l = method_among (named_methods (drop l.index l.own)) l.name ≡ method_among (named_methods l.own) l.name
