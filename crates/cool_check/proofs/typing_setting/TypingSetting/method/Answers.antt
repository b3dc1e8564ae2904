-- `TypingSetting::method` returns the method of a name in the nearest class, from the given class up to Object, that has one, as `method_of` of `Rules.antt`
-- does.
use Rattle.cool_rules.proofs.RulesOfTables.{method_of_is}
use Rattle.cool_check.proofs.typing_setting.TypingSetting.method.Goals as goal

pub returns-clause-method : goal.returns-clause-method
returns-clause-method c =
    let p = c.args.self.now.table.now in
    method_of_is p c.args.class c.args.name.now _ c.requires.sound.whole.table c.requires.class c.find_method.ensures.nearest
