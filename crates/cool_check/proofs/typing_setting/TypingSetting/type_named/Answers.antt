-- `TypingSetting::type_named` returns the type that has a name, or none, as `type_of_name` of `Rules.antt` does.
use Rattle.cool_rules.proofs.RulesOfTables.{type_of_name_is}
use Rattle.cool_check.proofs.typing_setting.TypingSetting.type_named.Goals as goal

pub returns-clause-named : goal.returns-clause-named
returns-clause-named c = type_of_name_is c.args.self.now.table.now c.args.name.now _ c.requires.sound.whole.table c.type_named.ensures.named
