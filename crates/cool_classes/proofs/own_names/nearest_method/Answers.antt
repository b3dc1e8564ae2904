-- `nearest_method` returns the method of the name in the first listed class that has one, or none. The method exists in the class table (`HasMethod` of
-- `Features.antt`).
use Rattle.std.proofs.Common.{◌<◌, length, get_or, sym, ◌∙◌}
use Rattle.cool_classes.specs.declared.class_id.ClassId.{ClassId}
use Rattle.cool_classes.specs.Chains.{class_number}
use Rattle.cool_classes.specs.Entries.{classes}
use Rattle.cool_classes.proofs.Seen.{within_classes}
use Rattle.cool_classes.proofs.Methods.{found_has, nearest_here, nearest_later}
use Rattle.cool_classes.proofs.OwnNamesGrow.{all_first, own_there}
use Rattle.cool_classes.proofs.own_names.nearest_method.Goals as goal

pub returns-in-Some-clause-nearest : goal.returns-in-Some-clause-nearest
returns-in-Some-clause-nearest c =
    let es = c.args.table.now.entries.now in
    let ds = c.args.above.now in
    let k = c.loop-index.index in
    let d = get_or ds k (class_number 0) in
    let there = all_first (λ (x : ClassId). x.0 < length es) ds k (class_number 0) c.loop-index-test.true c.loop-index.invariant.within in
    let own = own_there c.args.table.now d c.index.result.now c.requires.table there.0 c.index.ensures in
    let is = sym (c.own_method.ensures (classes es) own) ∙ c.in-Some.is in
    sym (nearest_here (classes es) ds k (class_number 0) c.args.name.now c.in-Some.method c.loop-index-test.true is) ∙ c.loop-index.invariant.nearest

pub returns-in-Some-clause-has : goal.returns-in-Some-clause-has
returns-in-Some-clause-has c =
    let es = c.args.table.now.entries.now in
    let ds = c.args.above.now in
    let k = c.loop-index.index in
    let d = get_or ds k (class_number 0) in
    let there = all_first (λ (x : ClassId). x.0 < length es) ds k (class_number 0) c.loop-index-test.true c.loop-index.invariant.within in
    let own = own_there c.args.table.now d c.index.result.now c.requires.table there.0 c.index.ensures in
    let is = sym (c.own_method.ensures (classes es) own) ∙ c.in-Some.is in
    found_has (classes es) d c.args.name.now c.in-Some.method (within_classes es d there.0) is

pub loop-index-preserved : goal.loop-index-preserved
loop-index-preserved c =
    let es = c.args.table.now.entries.now in
    let ds = c.args.above.now in
    let k = c.loop-index.index in
    let d = get_or ds k (class_number 0) in
    let there = all_first (λ (x : ClassId). x.0 < length es) ds k (class_number 0) c.loop-index-test.true c.loop-index.invariant.within in
    let own = own_there c.args.table.now d c.index.result.now c.requires.table there.0 c.index.ensures in
    let is = sym (c.own_method.ensures (classes es) own) ∙ c.in_default.is in
    record {
      nearest = nearest_later (classes es) ds k (class_number 0) c.args.name.now c.loop-index-test.true is ∙ c.loop-index.invariant.nearest;
      within = there.1;
    }
