-- `TypingSetting::formal` returns the type of a formal parameter: the type that its declared type name denotes (`type_meant` of `Rules.antt`).
use Rattle.cool_rules.proofs.RulesOfTables.{type_meant_is}
use Rattle.cool_check.proofs.typing_setting.TypingSetting.formal.Goals as goal

pub returns-clause-formal : goal.returns-clause-formal
returns-clause-formal c = type_meant_is c.args.self.now.table.now _ _ c.requires.sound.whole.table c.formal.ensures
