-- The loop of `attribute_scope` has entered the attributes before the current one into the scope, and the others are attributes of the class table.
use Rattle.std.proofs.Common.{◌≡◌, map}
use Rattle.std.specs.List.{AllByRecursion}
use Rattle.cool_classes.specs.Features.{HasAttribute}
use Rattle.cool_names.specs.Programs.{attribute_variable, attributes_in_scope}
use Rattle.cool_rules.specs.Scopes.{entered}
use Rattle.cool_names.specs.Scopes.{variables}
use Rattle.cool_names.proofs.feature.attribute_scope.Given as goal

abbrev pub invariant-loop-attribute : goal.invariant-loop-attribute
invariant-loop-attribute l = record {
  has : AllByRecursion (HasAttribute l.table) l.attribute-iterator.rest.items;
  attributes : entered (map (attribute_variable l.table) l.attribute-iterator.rest.items) (variables l.scope) ≡ attributes_in_scope l.table l.fn.class;
}
