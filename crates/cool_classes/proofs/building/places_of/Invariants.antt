-- The loop of `places_of` has added the source locations of the class definitions before the current one.
use Rattle.std.proofs.Common.{◌≡◌, map, take}
use Rattle.cool_syntax.specs.declared.file_tree.ClassDef.{ClassDef}
use Rattle.cool_classes.proofs.building.places_of.Given as goal

abbrev pub invariant-loop-definition : goal.invariant-loop-definition
invariant-loop-definition l = l.places.items ≡ map (λ (d : ClassDef). d.at) (take l.definition-index l.definitions)
