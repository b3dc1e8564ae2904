-- `have_attribute` returns true exactly if one of the classes has an attribute of the name. Its loop looks the name up in each class and stops at the first
-- success.
use Rattle.std.proofs.Common.{◌≡◌, ◌<◌, length, map, get_or, true, false, is_some, ap, sym, ◌∙◌}
use Rattle.cool_classes.specs.declared.class_id.ClassId.{ClassId}
use Rattle.cool_classes.specs.Chains.{class_number, features_of}
use Rattle.cool_classes.specs.Entries.{classes}
use Rattle.cool_classes.specs.FirstNames.{first_index, attribute_name}
use Rattle.cool_classes.proofs.OwnNamesGrow.{own_there, attribute_here, attribute_later, all_first}
use Rattle.cool_classes.proofs.own_names.have_attribute.Goals as goal

pub returns-then-is_some : goal.returns-then-is_some
returns-then-is_some c =
    let es = c.args.table.now.entries.now in
    let ds = c.args.above.now in
    let k = c.loop-index.index in
    let d = get_or ds k (class_number 0) in
    let row = map attribute_name (features_of (classes es) d) in
    let there = all_first (λ (x : ClassId). x.0 < length es) ds k (class_number 0) c.loop-index-test.true c.loop-index.invariant.within in
    let own = own_there c.args.table.now d c.index.result.now c.requires.table there.0 c.index.ensures in
    let here : is_some (first_index 0 row c.args.name.now) ≡ true = ap is_some (sym (c.first_index.ensures row own.attributes)) ∙ sym c.is_some.ensures ∙ c.if-is_some.true in
    sym (sym c.loop-index.invariant.have ∙ attribute_here (classes es) ds k (class_number 0) c.args.name.now c.loop-index-test.true here)

pub loop-index-preserved : goal.loop-index-preserved
loop-index-preserved c =
    let es = c.args.table.now.entries.now in
    let ds = c.args.above.now in
    let k = c.loop-index.index in
    let d = get_or ds k (class_number 0) in
    let row = map attribute_name (features_of (classes es) d) in
    let there = all_first (λ (x : ClassId). x.0 < length es) ds k (class_number 0) c.loop-index-test.true c.loop-index.invariant.within in
    let own = own_there c.args.table.now d c.index.result.now c.requires.table there.0 c.index.ensures in
    let here : is_some (first_index 0 row c.args.name.now) ≡ false = ap is_some (sym (c.first_index.ensures row own.attributes)) ∙ sym c.is_some.ensures ∙ c.if-is_some.false in
    record {
      have = attribute_later (classes es) ds k (class_number 0) c.args.name.now c.loop-index-test.true here ∙ c.loop-index.invariant.have;
      within = there.1;
    }
