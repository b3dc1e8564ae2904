-- `is_doubled` returns whether an earlier attribute of the class or an attribute of an ancestor has the name: `is_first_at` decides the first case, and
-- `have_attribute` the second.
use Rattle.std.proofs.Common.{List, map, not, ap, ◌∙◌}
use Rattle.cool_classes.specs.declared.class_id.ClassId.{ClassId}
use Rattle.cool_classes.specs.Chains.{features_of}
use Rattle.cool_classes.specs.Entries.{classes}
use Rattle.cool_classes.specs.FirstNames.{first_index, is_index, attribute_name}
use Rattle.cool_classes.specs.FeatureFaults.{have_attribute}
use Rattle.cool_classes.proofs.SameTypes.{or_first, or_second}
use Rattle.cool_classes.proofs.OwnNamesGrow.{own_there}
use Rattle.cool_classes.proofs.feature_phase.is_doubled.Goals as goal

pub returns-then-not-is_first_at : goal.returns-then-not-is_first_at
returns-then-not-is_first_at c =
    let p = classes c.args.table.now.entries.now in
    let d = c.args.lineage.now.class in
    let row = map attribute_name (features_of p d) in
    let own = own_there c.args.table.now d c.index-own.result.now c.requires.table c.requires.lineage.within c.index-own.ensures in
    or_first (not c.is_first_at.result) (not (is_index c.args.index (first_index 0 row c.args.name.now))) (have_attribute p c.args.lineage.now.above.items c.args.name.now)
    (ap not (c.is_first_at.ensures row own.attributes)) (ap not c.if-not-is_first_at.true)

pub returns-else-not-is_first_at : goal.returns-else-not-is_first_at
returns-else-not-is_first_at c =
    let p = classes c.args.table.now.entries.now in
    let d = c.args.lineage.now.class in
    let row = map attribute_name (features_of p d) in
    let own = own_there c.args.table.now d c.index-own.result.now c.requires.table c.requires.lineage.within c.index-own.ensures in
    or_second (not c.is_first_at.result) (not (is_index c.args.index (first_index 0 row c.args.name.now))) c.have_attribute.result (have_attribute p c.args.lineage.now.above.items c.args.name.now)
    (ap not (c.is_first_at.ensures row own.attributes)) (ap not c.if-not-is_first_at.false)
    (c.have_attribute.ensures ∙ ap (λ (ds : List ClassId). have_attribute p ds c.args.name.now) c.as_slice.ensures.value)
