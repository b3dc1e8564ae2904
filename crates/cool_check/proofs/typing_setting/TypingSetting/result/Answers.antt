-- `TypingSetting::result` returns the type of a method's result: the type that its declared type name denotes (`type_meant` of `Rules.antt`).
use Rattle.cool_rules.proofs.RulesOfTables.{type_meant_is}
use Rattle.cool_check.proofs.typing_setting.TypingSetting.result.Goals as goal

pub returns-clause-result : goal.returns-clause-result
returns-clause-result c = type_meant_is c.args.self.now.table.now _ _ c.requires.sound.whole.table c.result.ensures
