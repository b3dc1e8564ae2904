-- `attribute_scope` returns a scope with the attributes of a class, inherited ones included: each step of its loop enters one of them, from Object down.
use Rattle.std.proofs.Common.{◌≡◌, ◌∙◌, ◌∷◌, List, map, ap, subst, sym, rules}
use Rattle.std.specs.List.{AllByRecursion}
use Rattle.cool_classes.specs.declared.method.AttributeRef.{AttributeRef}
use Rattle.cool_classes.specs.Features.{HasAttribute}
use Rattle.cool_classes.specs.ClimbedChains.{chain}
use Rattle.cool_classes.proofs.ChainsOfTables.{chain_is}
use Rattle.cool_rules.specs.Scopes.{Bound, entered}
use Rattle.cool_names.specs.Programs.{attribute_variable, variable_there}
use Rattle.cool_names.specs.Scopes.{Variable, variables}
use Rattle.cool_names.proofs.feature.attribute_scope.Goals as goal

pub loop-attribute-init : goal.loop-attribute-init
loop-attribute-init c =
    let p = c.args.table.now in
    let items = c.into_iter-attribute-iterator.ensures.into_iter_gives.0 ∙ c.in_ok-attribute-items.ensures.attributes (chain p c.args.class) (chain_is p c.args.class c.requires.table c.requires.class) in
    let none = c.new-scope.ensures in
    record { has = search rules; attributes = λ i. entered (map (attribute_variable p) (items i)) (variables (none i)) }

pub loop-attribute-preserved : goal.loop-attribute-preserved
loop-attribute-preserved c =
    let p = c.args.table.now in
    let a = c.in-Some.attribute in
    let step = c.in-Some.ensures.steps.0 in
    let has = subst (AllByRecursion (HasAttribute p)) step c.loop-attribute.invariant.has in
    let entry : variables c.enter.new.self ≡ attribute_variable p a ∷ variables c.loop-attribute.scope =
    ap variables c.in_ok-enter.ensures ∙ ap (λ (v : Bound Variable). v ∷ variables c.loop-attribute.scope) (sym (ap variable_there c.attribute_definition-found.ensures)) in
    record {
      has = has.1;
      attributes = ap (entered (map (attribute_variable p) c.next.new.self.rest.items)) entry
          ∙ sym (ap (λ (rs : List AttributeRef). entered (map (attribute_variable p) rs) (variables c.loop-attribute.scope)) step)
          ∙ c.loop-attribute.invariant.attributes;
    }
