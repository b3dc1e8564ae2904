-- `class_made` looks up any name other than `SELF_TYPE` in the class table, as `class_made` of `Lookups.antt` defines.
use Rattle.std.proofs.Common.{◌≡◌, false, rules}
use Rattle.std.specs.Prelude.{bytes_eq}
use Rattle.cool_classes.specs.Names.{self_type}
use Rattle.cool_eval.specs.Values.{value_of}
use Rattle.cool_eval.proofs.ClassesByName.{made_named}
use Rattle.cool_eval.proofs.expression.class_made.Goals as goal

pub returns : goal.returns
returns c =
    let other : bytes_eq c.args.name.now self_type ≡ false = search rules in
    made_named c.args.setting.now.table.now (value_of c.args.scene.now.me) c.args.name.now c.id.result c.requires.ready.whole.table other c.id.ensures
