-- `method_of` returns the method that a class has itself or inherits (`implementation`). A class number past the last class has no method.
use Rattle.std.proofs.Common.{◌<◌, ◌≤◌, length, arith}
use Rattle.cool_eval.proofs.MethodsCalled.{method_outside, method_inside}
use Rattle.cool_eval.proofs.call.method_of.Goals as goal

pub returns-then-class-count : goal.returns-then-class-count
returns-then-class-count c =
    let p = c.args.setting.now.table.now in
    let n = c.count.ensures.count in
    let t = c.if-class-count.true in
    let past : length p ≤ c.args.class.0 = omega arith in
    record { method = method_outside p c.args.class c.args.name.now c.count.ensures.table past }

pub returns : goal.returns
returns c =
    let p = c.args.setting.now.table.now in
    let n = c.count.ensures.count in
    let f = c.if-class-count.false in
    let within : c.args.class.0 < length p = omega arith in
    record { method = method_inside p c.args.class c.args.name.now c.find_method.result c.count.ensures.table within c.find_method.ensures.nearest }
