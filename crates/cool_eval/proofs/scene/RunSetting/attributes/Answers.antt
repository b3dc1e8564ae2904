-- `RunSetting::attributes` returns no attributes for a class number past the last list of attributes, because the class table has no class of this number.
use Rattle.std.proofs.Common.{◌≤◌, length, sym, arith}
use Rattle.std.proofs.lemmas.Bool.{ltb-false}
use Rattle.cool_eval.proofs.AttributesInTables.{no_attributes}
use Rattle.cool_eval.proofs.scene.RunSetting.attributes.Goals as goal

pub returns-in-None-clause-attributes : goal.returns-in-None-clause-attributes
returns-in-None-clause-attributes c =
    let long = c.requires.ready.layouts.0 in
    let past : length c.args.self.now.layouts.now ≤ c.args.class.0 = ltb-false c.args.class.0 (length c.args.self.now.layouts.now) (sym c.in-None.ensures.lookup.0) in
    no_attributes c.args.self.now.table.now c.args.class (omega arith)
