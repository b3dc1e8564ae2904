-- `FoldingSetting::is_properly_below` returns true exactly if the first class is a proper subclass of the second: the proper ancestors of a class are its
-- parent and the ancestors of the parent.
use Rattle.std.proofs.Common.{◌≡◌, ◌∙◌, ap, sym, List, Some, None}
use Rattle.cool_classes.specs.declared.class_id.ClassId.{ClassId}
use Rattle.cool_classes.specs.Chains.{parent_of}
use Rattle.cool_rules.specs.Rules.{is_among}
use Rattle.cool_fold.proofs.ClassesAbove.{above_top, is_above}
use Rattle.cool_fold.proofs.folding_setting.FoldingSetting.is_properly_below.Goals as goal

pub returns-in-Some : goal.returns-in-Some
returns-in-Some c =
    let p = c.args.self.now.table.now in
    let d = c.args.below in
    let up : parent_of p d ≡ Some c.in-Some.parent = sym c.parent.ensures.parent ∙ c.in-Some.is in
    is_above p d c.in-Some.parent c.args.class c.is_below.result c.requires.sound.table.table c.in-Some.ensures.above up c.is_below.ensures

pub returns-in-None : goal.returns-in-None
unfolding is_among
returns-in-None c =
    let p = c.args.self.now.table.now in
    let d = c.args.below in
    let up : parent_of p d ≡ None = sym c.parent.ensures.parent ∙ c.in-None.is in
    ap (λ (ds : List ClassId). is_among ds c.args.class) (sym (above_top p d up))
