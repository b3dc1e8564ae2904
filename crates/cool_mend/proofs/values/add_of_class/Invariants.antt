-- In the loop of `add_of_class`, the places so far of expressions that give the wrong value, followed by those in the features that are left, are all such
-- places.
use Rattle.std.proofs.Common.{◌≡◌, ◌++◌, drop}
use Rattle.std.specs.List.{flat_map}
use Rattle.cool_mend.specs.Values.{values_of_feature}
use Rattle.cool_mend.proofs.values.add_of_class.Given as goal

abbrev pub invariant-loop-feature : goal.invariant-loop-feature
invariant-loop-feature l =
    l.all.items ++ flat_map (values_of_feature l.lets l.at) (drop l.feature-index l.features) ≡ l.fn.all.items ++ flat_map (values_of_feature l.lets l.at) l.features
