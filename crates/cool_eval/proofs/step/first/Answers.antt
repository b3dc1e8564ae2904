-- `first` begins a new object of the class with the name `Main` in the class table, as `begin_new` of `StackMachine.antt` defines.
use Rattle.std.proofs.Common.{◌≡◌, sym, arith}
use Rattle.std.proofs.lemmas.Grind.{common_steps}
use Rattle.cool_rules.specs.Rules.{class_named}
use Rattle.cool_eval.proofs.ClassesByName.{named_is}
use Rattle.cool_eval.proofs.step.first.Goals as goal

pub returns-clause-comes : goal.returns-clause-comes
returns-clause-comes c = λ input output.
    let p = c.args.setting.now.table.now in
    let same : c.id.result ≡ class_named p c.args.main.now = named_is p c.args.main.now c.id.result c.requires.ready.whole.table c.id.ensures in
    rw (sym same) (grind (arith, common_steps, c.begin_new.ensures.comes input output))
