-- `NamingSetting::result_on` returns the type of a call: the declared result type of the method (`type_meant` of `Rules.antt`), or the receiver's type if
-- that is `SELF_TYPE`.
use Rattle.std.proofs.Common.{ap, sym, ◌∙◌}
use Rattle.cool_rules.specs.Typing.{result_on}
use Rattle.cool_rules.proofs.RulesOfTables.{type_meant_is}
use Rattle.cool_names.proofs.naming_setting.NamingSetting.result_on.Goals as goal

pub returns-in-SelfType-clause-seen : goal.returns-in-SelfType-clause-seen
returns-in-SelfType-clause-seen c = ap (result_on c.args.receiver) (sym c.in-SelfType.is ∙ type_meant_is c.args.self.now.program.table.now _ _ c.requires.sound.0.table c.result.ensures)

pub returns-in-Class-clause-seen : goal.returns-in-Class-clause-seen
returns-in-Class-clause-seen c = ap (result_on c.args.receiver) (sym c.in-Class.is ∙ type_meant_is c.args.self.now.program.table.now _ _ c.requires.sound.0.table c.result.ensures)
