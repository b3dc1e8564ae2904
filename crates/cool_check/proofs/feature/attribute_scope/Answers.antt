-- `attribute_scope` returns a scope with the attributes of a class and its ancestors, from Object down. Each step of its loop enters one attribute with the
-- type that its declared name denotes (`type_meant`).
use Rattle.std.proofs.Common.{◌≡◌, ◌∙◌, ◌∷◌, List, map, ap, subst, sym, rules}
use Rattle.std.specs.List.{AllByRecursion}
use Rattle.cool_classes.specs.declared.method.AttributeRef.{AttributeRef}
use Rattle.cool_classes.specs.Features.{HasAttribute, attribute_type}
use Rattle.cool_classes.specs.ClimbedChains.{chain}
use Rattle.cool_rules.specs.Rules.{attribute_binding, type_meant}
use Rattle.cool_rules.specs.Scopes.{entered}
use Rattle.cool_classes.proofs.ChainsOfTables.{chain_is}
use Rattle.cool_rules.proofs.RulesOfTables.{type_meant_is}
use Rattle.cool_check.proofs.feature.attribute_scope.Goals as goal

pub loop-attribute-init : goal.loop-attribute-init
loop-attribute-init c =
    let p = c.args.t.now in
    let items = c.into_iter-attribute-iterator.ensures.into_iter_gives.0 ∙ c.in_ok-attribute-items.ensures.attributes (chain p c.args.c) (chain_is p c.args.c c.requires.table c.requires.class) in
    let none = c.new-scope.ensures in
    record { types = search rules; has = search rules; attributes = λ i. entered (map (attribute_binding p) (items i)) (none i) }

pub loop-attribute-preserved : goal.loop-attribute-preserved
loop-attribute-preserved c =
    let p = c.args.t.now in
    let a = c.in-Some.attribute in
    let step = c.in-Some.ensures.steps.0 in
    let types = c.loop-attribute.invariant.types in
    let has = subst (AllByRecursion (HasAttribute p)) step c.loop-attribute.invariant.has in
    let name = c.attribute_name.ensures in
    let type : c.attribute_type.result ≡ type_meant p (attribute_type p a) = type_meant_is p (attribute_type p a) c.attribute_type.result c.requires.table c.attribute_type.ensures in
    let entry : c.enter.new.self ≡ attribute_binding p a ∷ c.loop-attribute.scope = c.in_ok-enter.ensures ∙ (λ i. record { name = name i; value = type i } ∷ c.loop-attribute.scope) in
    record {
      types = search rules;
      has = has.1;
      attributes = ap (entered (map (attribute_binding p) c.next.new.self.rest.items)) entry
          ∙ sym (ap (λ (as' : List AttributeRef). entered (map (attribute_binding p) as') c.loop-attribute.scope) step)
          ∙ c.loop-attribute.invariant.attributes;
    }
