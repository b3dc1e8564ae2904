-- In the loop of `values_of_classes`, the places of expressions that give the wrong value are added for all classes before the present one.
use Rattle.std.proofs.Common.{◌≡◌, take}
use Rattle.std.specs.List.{flat_map}
use Rattle.cool_mend.specs.Values.{values_of_class}
use Rattle.cool_mend.proofs.values.values_of_classes.Given as goal

abbrev pub invariant-loop-number : goal.invariant-loop-number
invariant-loop-number l = l.all.items ≡ flat_map (values_of_class l.lets l.at) (take l.number l.classes)
