-- `NamingSetting::method` returns the method of a name that the nearest class, from the given class up to Object, defines, which is `method_of` of
-- `Rules.antt`.
use Rattle.std.proofs.Common.{◌≡◌, ◌<◌, length, sym, subst}
use Rattle.cool_classes.specs.declared.class_id.ClassId.{ClassId}
use Rattle.cool_rules.specs.Rules.{method_of}
use Rattle.cool_rules.proofs.RulesOfTables.{method_of_is}
use Rattle.cool_names.proofs.naming_setting.NamingSetting.method.Goals as goal
use Rattle.cool_names.proofs.SeenTypes.{class_within}

pub returns-clause-method : goal.returns-clause-method
returns-clause-method c =
    let p = c.args.self.now.program.table.now in
    let own = c.args.self.now.class in
    let name = c.args.name.now in
    let within = subst (λ (d : ClassId). d.0 < length p) (sym c.class_of.ensures) (class_within p own c.args.owner c.requires.sound.1 c.requires.owner) in
    subst (λ (d : ClassId). c.find_method.result ≡ method_of p d name) c.class_of.ensures
    (method_of_is p c.class_of.result name _ c.requires.sound.0.table within c.find_method.ensures.nearest)
