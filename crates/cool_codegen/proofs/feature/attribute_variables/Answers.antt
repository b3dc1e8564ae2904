-- `attribute_variables` returns a scope with all attributes of a class, inherited ones included: each step of its loop enters one attribute.
use Rattle.std.proofs.Common.{◌∙◌, sym, subst, rules, arith, Contains}
use Rattle.std.specs.List.{AllByRecursion}
use Rattle.cool_classes.specs.ClimbedChains.{chain}
use Rattle.cool_classes.proofs.ChainsOfTables.{chain_is}
use Rattle.cool_layout.specs.Members.{attributes, is_attribute}
use Rattle.cool_layout.proofs.ShortChains.{chain_is as short_chain}
use Rattle.cool_codegen.specs.Features.{with_attributes}
use Rattle.cool_codegen.proofs.AttributesOfClasses.{all_there, place_low}
use Rattle.cool_codegen.proofs.feature.attribute_variables.Goals as goal

pub loop-attribute-init : goal.loop-attribute-init
loop-attribute-init c =
    let p = c.args.table.now in
    let k = c.args.class in
    let items = c.into_iter-attribute-iterator.ensures.into_iter_gives.0 ∙ c.in_ok-attribute-items.ensures.attributes (chain p k) (chain_is p k c.requires.whole.table c.requires.class) in
    let none = c.new-variables.ensures in
    let all = all_there (attributes p k) (attributes p k) (λ a h. h) in
    record {
      types = search rules;
      has = search rules;
      there = subst (AllByRecursion (Contains (attributes p k))) (sym items) all;
      variables = λ i. with_attributes p k (items i) (none i);
    }

-- The attribute stands in the objects of the class, low enough, and its type is the one that its declared name means.

pub offset-requires : goal.offset-requires
offset-requires c = (c.args.table.now, c.requires.layout, c.requires.class, search rules)

pub signed-requires : goal.signed-requires
signed-requires c =
    let p = c.args.table.now in
    let k = c.args.class in
    let layout = c.requires.layout in
    let there : Contains (attributes p k) c.in-Some.attribute = search rules in
    let is = c.offset.ensures.offset p layout c.requires.class there in
    let few = layout.limits.attributes k (chain p k) c.requires.class (short_chain p layout.rooted k c.requires.class) in
    let low = place_low (is_attribute c.in-Some.attribute) (attributes p k) in
    omega arith
