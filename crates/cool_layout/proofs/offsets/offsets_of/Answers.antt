-- `offsets_of` returns the offsets of the attributes of each class. No class has more than 2000 attributes (`KeepsLimits` of `Limits.antt`), as
-- `own_offsets` requires.
use Rattle.std.proofs.Common.{◌≡◌, ◌+◌, ◌<◌, ◌≤◌, length, ap, ◌∙◌, arith}
use Rattle.cool_classes.specs.Chains.{class_number, features_of}
use Rattle.cool_layout.specs.Offsets.{attribute_count, above_count}
use Rattle.cool_layout.specs.Preorder.{tag}
use Rattle.cool_layout.proofs.AttributesCounted.{few}
use Rattle.cool_layout.proofs.TagRanges.{at_tag}
use Rattle.cool_layout.proofs.offsets.offsets_of.Goals as goal

pub count_above-above-requires-clause-known : goal.count_above-above-requires-clause-known
count_above-above-requires-clause-known c =
    let p = c.args.t.now in
    let d = class_number c.loop-number.number in
    let end = c.count-number-end.ensures.count in
    let test = c.loop-number-test.true in
    let within : c.loop-number.number < length p = omega arith in
    let low : tag p d < length p = (at_tag p c.requires.rooted d within).0 in
    let long : length c.as_slice.result.now ≡ length p = ap length c.as_slice.ensures.value ∙ c.in_ok-counts.ensures.same in
    omega arith

pub own_offsets-requires : goal.own_offsets-requires
own_offsets-requires c =
    let p = c.args.t.now in
    let d = class_number c.loop-number.number in
    let end = c.count-number-end.ensures.count in
    let test = c.loop-number-test.true in
    let within : c.loop-number.number < length p = omega arith in
    let few : above_count p d + attribute_count (features_of p d) ≤ 2000 = few p c.requires.rooted c.requires.limits d within in
    let above = c.count_above-above.ensures in
    let features : attribute_count c.features.result.now ≡ attribute_count (features_of p d) = ap attribute_count c.features.ensures.features in
    record { few = omega arith }
