-- `TypingSetting::attribute` returns the type of an attribute: the type that its declared type name denotes (`type_meant` of `Rules.antt`).
use Rattle.cool_rules.proofs.RulesOfTables.{type_meant_is}
use Rattle.cool_check.proofs.typing_setting.TypingSetting.attribute.Goals as goal

pub returns-clause-attribute : goal.returns-clause-attribute
returns-clause-attribute c = type_meant_is c.args.self.now.table.now _ _ c.requires.sound.whole.table c.attribute_type.ensures
