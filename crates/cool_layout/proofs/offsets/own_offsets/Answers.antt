-- `own_offsets` returns the offset of each attribute that a class defines, and 0 for each method. Its sums do not overflow, because the class has at most
-- 2000 attributes.
use Rattle.std.proofs.Common.{ap, ◌∙◌, arith}
use Rattle.cool_layout.proofs.AttributePlaces.{attribute_pushed, method_pushed}
use Rattle.cool_layout.proofs.offsets.own_offsets.Goals as goal
use Rattle.cool_layout.proofs.offsets.own_offsets.Goals.{in-Attribute+in_ok-push-in-Attribute, in-Method+in_ok-push-in-Method}

pub overflow_mul-count : goal.overflow_mul-count
overflow_mul-count c =
    let more = attribute_pushed c.args.above c.loop-index.index c.args.features.now c.index-features-index.result c.in-Attribute.field-0 c.loop-index-test.true c.index-features-index.is c.in-Attribute.is c.loop-index.offsets.items c.loop-index.count c.loop-index.invariant.0 c.loop-index.invariant.1 in
    let low = more.2 in
    let few = c.requires.few in
    omega arith

pub overflow_add-count : goal.overflow_add-count
overflow_add-count c =
    let more = attribute_pushed c.args.above c.loop-index.index c.args.features.now c.index-features-index.result c.in-Attribute.field-0 c.loop-index-test.true c.index-features-index.is c.in-Attribute.is c.loop-index.offsets.items c.loop-index.count c.loop-index.invariant.0 c.loop-index.invariant.1 in
    let low = more.2 in
    let few = c.requires.few in
    omega arith

pub overflow_add-count-in-Attribute : goal.overflow_add-count-in-Attribute
overflow_add-count-in-Attribute c =
    let more = attribute_pushed c.args.above c.loop-index.index c.args.features.now c.index-features-index.result c.in-Attribute.field-0 c.loop-index-test.true c.index-features-index.is c.in-Attribute.is c.loop-index.offsets.items c.loop-index.count c.loop-index.invariant.0 c.loop-index.invariant.1 in
    let low = more.2 in
    let few = c.requires.few in
    omega arith

pub loop-index-preserved : goal.loop-index-preserved
loop-index-preserved c = elim c.match-features-index.branch [
  | in-Attribute+in_ok-push-in-Attribute w ↦
      let more = attribute_pushed c.args.above c.loop-index.index c.args.features.now c.index-features-index.result w.in-Attribute.field-0 c.loop-index-test.true c.index-features-index.is w.in-Attribute.is c.loop-index.offsets.items c.loop-index.count c.loop-index.invariant.0 c.loop-index.invariant.1 in
      (ap (λ v. v.items) w.offsets-is ∙ w.in_ok-push-in-Attribute.ensures.items ∙ more.0, w.count-is ∙ more.1)
  | in-Method+in_ok-push-in-Method w ↦
      let more = method_pushed c.args.above c.loop-index.index c.args.features.now c.index-features-index.result w.in-Method.field-0 c.loop-index-test.true c.index-features-index.is w.in-Method.is c.loop-index.offsets.items c.loop-index.count c.loop-index.invariant.0 c.loop-index.invariant.1 in
      (ap (λ v. v.items) w.offsets-is ∙ w.in_ok-push-in-Method.ensures.items ∙ more.0, w.count-is ∙ more.1)
]
