-- In the loop of `values_of_lets`, the places of expressions that give the wrong initial value of a `let` are added for all nodes before the present one.
use Rattle.std.proofs.Common.{◌≡◌, take}
use Rattle.std.specs.List.{flat_map}
use Rattle.cool_syntax.specs.NodeLists.{all_trees}
use Rattle.cool_mend.specs.Values.{values_of_let}
use Rattle.cool_mend.proofs.values.values_of_lets.Given as goal

abbrev pub invariant-loop-number : goal.invariant-loop-number
invariant-loop-number l = l.all.items ≡ flat_map (values_of_let l.at) (take l.number (all_trees l.body))
