-- `own_count` returns the number of attributes among the features of a class: each step of its loop counts one feature if it is an attribute.
use Rattle.std.proofs.Common.{arith}
use Rattle.cool_layout.proofs.AttributesCounted.{attribute_counted, method_counted}
use Rattle.cool_layout.proofs.offsets.own_count.Goals as goal
use Rattle.cool_layout.proofs.offsets.own_count.Goals.{in-Attribute, in-Method}

pub loop-index-preserved : goal.loop-index-preserved
loop-index-preserved c = elim c.match-features-index.branch [
  | in-Attribute w ↦
      let next = attribute_counted c.loop-index.index c.args.features.now c.index-features-index.result w.in-Attribute.field-0 c.loop-index-test.true c.index-features-index.is w.in-Attribute.is in
      let is = w.count-is in
      let before = c.loop-index.invariant.0 in
      let few = c.loop-index.invariant.1 in
      (omega arith, omega arith)
  | in-Method w ↦
      let next = method_counted c.loop-index.index c.args.features.now c.index-features-index.result w.in-Method.field-0 c.loop-index-test.true c.index-features-index.is w.in-Method.is in
      let is = w.count-is in
      let before = c.loop-index.invariant.0 in
      let few = c.loop-index.invariant.1 in
      (omega arith, omega arith)
]
