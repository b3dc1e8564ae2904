-- In the loop of `attribute_scope`, the names in scope have types of the class table, and the remaining attributes complete the scope.
use Rattle.std.proofs.Common.{◌≡◌, map}
use Rattle.std.specs.List.{AllByRecursion}
use Rattle.cool_classes.specs.Features.{HasAttribute}
use Rattle.cool_rules.specs.Rules.{attribute_binding}
use Rattle.cool_rules.specs.Scopes.{AreTypes, entered}
use Rattle.cool_check.specs.Contexts.{attribute_bindings}
use Rattle.cool_check.proofs.feature.attribute_scope.Given as goal

abbrev pub invariant-loop-attribute : goal.invariant-loop-attribute
invariant-loop-attribute l = record {
  types : AreTypes l.t l.scope;
  has : AllByRecursion (HasAttribute l.t) l.attribute-iterator.rest.items;
  attributes : entered (map (attribute_binding l.t) l.attribute-iterator.rest.items) l.scope ≡ attribute_bindings l.t l.fn.c;
}
