-- `counts_of` returns the number of attributes of each class, inherited ones included, as a list by tag. Each step of its loop adds up those of the parent and
-- those that the class defines.
use Rattle.std.proofs.Common.{◌≡◌, ◌+◌, ◌<◌, ◌≤◌, length, sym, ap, ◌∙◌, subst, arith}
use Rattle.std.proofs.lemmas.List.{length_push}
use Rattle.cool_classes.specs.declared.class_id.ClassId.{ClassId}
use Rattle.cool_classes.specs.Chains.{features_of}
use Rattle.cool_layout.specs.Members.{attributes}
use Rattle.cool_layout.specs.Offsets.{AreCounts, above_count, attribute_count}
use Rattle.cool_layout.specs.Preorder.{preorder, tag}
use Rattle.cool_layout.specs.SlotTables.{class_of}
use Rattle.cool_layout.proofs.AttributePlaces.{counted}
use Rattle.cool_layout.proofs.AttributesCounted.{counts_more, few}
use Rattle.cool_layout.proofs.TagRanges.{preorder_long, at_tag}
use Rattle.cool_layout.proofs.TagsNoted.{class_read}
use Rattle.cool_layout.proofs.offsets.counts_of.Goals as goal

pub index-class-requires : goal.index-class-requires
index-class-requires c =
    let p = c.args.t.now in
    let count = c.count-tag-end.ensures.count in
    let low = c.loop-tag-test.true in
    let ok = c.args.walk.now.order.ok.0 in
    let long : length (preorder p) ≡ length p = preorder_long p c.requires.rooted in
    let same : length c.args.walk.now.order.items ≡ length (preorder p) = ap length c.requires.walk.order in
    omega arith

pub count_above-above-requires-clause-class : goal.count_above-above-requires-clause-class
count_above-above-requires-clause-class c =
    let count = c.count-tag-end.ensures.count in
    let low = c.loop-tag-test.true in
    (class_read c.args.t.now c.requires.rooted c.args.walk.now.order.items c.requires.walk.order c.loop-tag.tag (omega arith) c.index-class.result.now c.index-class.ensures).0

pub count_above-above-requires-clause-known : goal.count_above-above-requires-clause-known
count_above-above-requires-clause-known c =
    let p = c.args.t.now in
    let count = c.count-tag-end.ensures.count in
    let low = c.loop-tag-test.true in
    let read = class_read p c.requires.rooted c.args.walk.now.order.items c.requires.walk.order c.loop-tag.tag (omega arith) c.index-class.result.now c.index-class.ensures in
    let here : tag p c.index-class.result.now ≡ c.loop-tag.tag = read.1 in
    let long : length c.as_slice.result.now ≡ c.loop-tag.tag = ap length c.as_slice.ensures.value ∙ c.loop-tag.invariant.0 in
    omega arith

pub features-requires : goal.features-requires
features-requires c =
    let count = c.count-tag-end.ensures.count in
    let low = c.loop-tag-test.true in
    record { within = (class_read c.args.t.now c.requires.rooted c.args.walk.now.order.items c.requires.walk.order c.loop-tag.tag (omega arith) c.index-class.result.now c.index-class.ensures).0 }

pub overflow_add-above : goal.overflow_add-above
overflow_add-above c =
    let p = c.args.t.now in
    let count = c.count-tag-end.ensures.count in
    let low = c.loop-tag-test.true in
    let d : ClassId = c.index-class.result.now in
    let read = class_read p c.requires.rooted c.args.walk.now.order.items c.requires.walk.order c.loop-tag.tag (omega arith) d c.index-class.ensures in
    let own : c.own_count.result ≡ attribute_count (features_of p d) = c.own_count.ensures ∙ ap attribute_count c.features.ensures.features in
    let above : c.count_above-above.result ≡ above_count p d = c.count_above-above.ensures in
    let most : above_count p d + attribute_count (features_of p d) ≤ 2000 = few p c.requires.rooted c.requires.limits d read.0 in
    omega arith

pub loop-tag-preserved : goal.loop-tag-preserved
loop-tag-preserved c =
    let p = c.args.t.now in
    let count = c.count-tag-end.ensures.count in
    let low = c.loop-tag-test.true in
    let inside : c.loop-tag.tag < length p = omega arith in
    let d : ClassId = c.index-class.result.now in
    let read = class_read p c.requires.rooted c.args.walk.now.order.items c.requires.walk.order c.loop-tag.tag inside d c.index-class.ensures in
    let class : d ≡ class_of p c.loop-tag.tag = sym (at_tag p c.requires.rooted d read.0).1 ∙ ap (class_of p) read.1 in
    let own : c.own_count.result ≡ attribute_count (features_of p d) = c.own_count.ensures ∙ ap attribute_count c.features.ensures.features in
    let above : c.count_above-above.result ≡ above_count p d = c.count_above-above.ensures in
    let all : length (attributes p d) ≡ above_count p d + attribute_count (features_of p d) = counted p c.requires.rooted d read.0 in
    let sum : c.count_above-above.result + c.own_count.result ≡ length (attributes p d) = omega arith in (
      (let l = ap length c.in_ok-push.ensures.items ∙ length_push c.loop-tag.counts.items _ in let e = c.loop-tag.invariant.0 in omega arith),
      subst (AreCounts p) (sym c.in_ok-push.ensures.items)
          (counts_more p c.loop-tag.counts.items c.loop-tag.tag _ c.loop-tag.invariant.0 c.loop-tag.invariant.1 (sum ∙ ap (λ (x : ClassId). length (attributes p x)) class)),
    )
