-- `FoldingSetting::is_redefined` returns whether a proper subclass defines a method of the name. The classes that define the name are classes of the class
-- table, as `is_properly_below` requires.
use Rattle.std.proofs.Common.{◌<◌, length, arith}
use Rattle.cool_fold.proofs.DefinersGrow.{definer_within}
use Rattle.cool_fold.proofs.folding_setting.FoldingSetting.is_redefined.Goals as goal

pub is_properly_below-requires-clause-below : goal.is_properly_below-requires-clause-below
is_properly_below-requires-clause-below c =
    let s = c.args.self.now in
    let l = c.loop-below in
    let items = c.of-below-items.result.now in
    let end = l.auto.below-index-end in
    let test = c.loop-below-test.true in
    let within : l.below-index < length items = omega arith in
    let definers = c.requires.sound.definers in
    definer_within s.table.now s.definers.now c.args.name.now items l.below-index (record { 0 = 0 }) definers c.of-below-items.ensures within
