-- `all_methods` adds the methods of a class and then of its ancestors, one after another. A class number outside the class table has no methods.
use Rattle.std.proofs.Common.{◌∙◌, ◌<◌, Option, IfSome, ap, arith, length, subst, sym}
use Rattle.cool_classes.specs.declared.class_id.ClassId.{ClassId}
use Rattle.cool_faults.specs.Files.{bytes_of}
use Rattle.cool_mend.proofs.MethodsTold.{at_end, at_top, class_passed, none_outside, none_passed}
use Rattle.cool_mend.proofs.types.all_methods.Goals as goal

pub returns-then-class-count : goal.returns-then-class-count
returns-then-class-count c =
    ap bytes_of c.new-all.ensures.items ∙ sym (none_outside c.args.classes.now c.args.class c.count.ensures.table (omega (arith, c.if-class-count.true, c.count.ensures.count)))

pub loop-init : goal.loop-init
loop-init c = record {
  within = omega (arith, c.if-class-count.false, c.count.ensures.count);
  rest = none_passed c.args.classes.now c.args.class _ _ (ap bytes_of c.new-all.ensures.items) (omega arith);
}

pub returns-in_default : goal.returns-in_default
returns-in_default c = at_top c.args.classes.now c.args.class _ _ _ c.loop.next c.in_default.is c.loop.invariant.rest

pub add_own-requires : goal.add_own-requires
add_own-requires c = subst (λ (o : Option ClassId). IfSome o (λ d. d.0 < length c.args.classes.now)) c.in-Some.is c.loop.invariant.within

pub parent-next-requires : goal.parent-next-requires
parent-next-requires c = record { within = subst (λ (o : Option ClassId). IfSome o (λ d. d.0 < length c.args.classes.now)) c.in-Some.is c.loop.invariant.within }

pub loop-preserved : goal.loop-preserved
loop-preserved c = record {
  within = c.parent-next.ensures.above;
  rest = class_passed c.args.classes.now c.args.class (bytes_of c.loop.all.items) _ _ _ _ c.loop.next c.parent-next.result c.in-Some.here c.in-Some.is
      (omega (arith, c.loop-test.true, c.count-2.ensures.count)) c.parent-next.ensures.parent c.in_ok-add_own.ensures c.loop.invariant.rest;
}

pub returns : goal.returns
returns c = at_end c.args.classes.now c.args.class _ _ _ c.loop.next (omega (arith, c.loop-test.false, c.count-2.ensures.count)) c.loop.invariant.rest
