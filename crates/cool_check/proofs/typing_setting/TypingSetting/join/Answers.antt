-- `TypingSetting::join` returns the join of two types, which is the least type to which both conform, as `join_in` of `Rules.antt` does.
use Rattle.cool_rules.proofs.RulesOfTables.{join_in_is}
use Rattle.cool_check.proofs.typing_setting.TypingSetting.join.Goals as goal

pub returns-clause-join : goal.returns-clause-join
returns-clause-join c =
    join_in_is c.args.self.now.table.now c.args.self.now.class c.args.a c.args.b _ c.requires.sound.whole.table c.requires.sound.class c.requires.left c.requires.right c.join_types.ensures.join
