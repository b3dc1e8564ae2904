-- `TypingSetting::conforms` decides whether one type conforms to another (is its subtype) in the class that is checked, as `do_conform` of `Rules.antt` does.
use Rattle.cool_rules.proofs.RulesOfTables.{do_conform_is}
use Rattle.cool_check.proofs.typing_setting.TypingSetting.conforms.Goals as goal

pub returns : goal.returns
returns c = do_conform_is c.args.self.now.table.now c.args.self.now.class c.args.a c.args.b _ c.requires.sound.whole.table c.requires.sound.class c.requires.is_type c.conforms.ensures
