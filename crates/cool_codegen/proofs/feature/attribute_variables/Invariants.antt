-- The variables that `attribute_variables` has entered so far, followed by those of the remaining attributes, are those of all attributes of the class.
use Rattle.std.proofs.Common.{◌≡◌, Contains}
use Rattle.std.specs.List.{AllByRecursion}
use Rattle.cool_classes.specs.Features.{HasAttribute}
use Rattle.cool_layout.specs.Members.{attributes}
use Rattle.cool_codegen.specs.Features.{attributes_in, with_attributes}
use Rattle.cool_codegen.specs.CodeSettings.{HaveTypes}
use Rattle.cool_codegen.proofs.feature.attribute_variables.Given as goal

abbrev pub invariant-loop-attribute : goal.invariant-loop-attribute
invariant-loop-attribute l = record {
  types : HaveTypes l.table l.variables;
  has : AllByRecursion (HasAttribute l.table) l.attribute-iterator.rest.items;
  there : AllByRecursion (Contains (attributes l.table l.class)) l.attribute-iterator.rest.items;
  variables : with_attributes l.table l.class l.attribute-iterator.rest.items l.variables ≡ attributes_in l.table l.class;
}
