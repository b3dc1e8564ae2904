-- `method_meant` returns the method of a name that the nearest class, from the given class up to Object, defines, or `abort` of Object if there is none, as
-- `method_in` of `Meant.antt` does.
use Rattle.std.proofs.Common.{ap}
use Rattle.std.specs.Prelude.{unwrap_or}
use Rattle.cool_classes.specs.declared.method.BasicMethod.TheVariants.{Abort}
use Rattle.cool_classes.specs.declared.method.MethodRef.TheVariants.{Basic}
use Rattle.cool_rules.proofs.RulesOfTables.{method_of_is}
use Rattle.cool_rules.proofs.meant.method_meant.Goals as goal

pub returns-in-Some-clause-method : goal.returns-in-Some-clause-method
returns-in-Some-clause-method c =
    ap (λ o. unwrap_or o (Basic Abort)) (method_of_is c.args.t.now c.args.class c.args.name.now _ c.requires.table c.requires.class c.in-Some.ensures.nearest)

pub returns-in-None-clause-method : goal.returns-in-None-clause-method
returns-in-None-clause-method c =
    ap (λ o. unwrap_or o (Basic Abort)) (method_of_is c.args.t.now c.args.class c.args.name.now _ c.requires.table c.requires.class c.in-None.ensures.nearest)
