-- `layouts` returns the attributes of each class: each step of its loop adds those of the next class, with those that it inherits.
use Rattle.std.proofs.Common.{arith}
use Rattle.cool_eval.proofs.LayoutsOfTables.{layouts_more}
use Rattle.cool_eval.proofs.evaluation.layouts.Goals as goal

pub loop-class-preserved : goal.loop-class-preserved
loop-class-preserved c =
    let before = c.loop-class.invariant in
    let next = c.in_ok-attributes.ensures in
    let many = c.count-class-end.ensures.count in
    let low = c.loop-class-test.true in
    let both = layouts_more c.args.table.now c.loop-class.layouts.items c.push.new.self.items c.in_ok-attributes.field-0 c.loop-class.class
    c.in_ok-push.ensures.items c.count-class-end.ensures.table (omega arith) before.long before.are next.attributes next.has in
    record { long = both.0; are = both.1 }
