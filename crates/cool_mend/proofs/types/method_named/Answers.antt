-- `method_named` finds the method in the nearest class among a class and its ancestors. A class number outside the class table has no method.
use Rattle.std.proofs.Common.{arith, sym}
use Rattle.cool_rules.proofs.RulesOfTables.{method_of_is}
use Rattle.cool_mend.proofs.MethodsTold.{method_outside}
use Rattle.cool_mend.proofs.types.method_named.Goals as goal

pub returns-then-class-count-clause-is : goal.returns-then-class-count-clause-is
returns-then-class-count-clause-is c =
    sym (method_outside c.args.classes.now c.args.class c.args.name.now c.count.ensures.table (omega (arith, c.if-class-count.true, c.count.ensures.count)))

pub returns-clause-is : goal.returns-clause-is
returns-clause-is c =
    method_of_is c.args.classes.now c.args.class c.args.name.now _ c.count.ensures.table (omega (arith, c.if-class-count.false, c.count.ensures.count)) c.find_method.ensures.nearest
