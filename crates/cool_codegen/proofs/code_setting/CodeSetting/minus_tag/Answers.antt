-- `CodeSetting::minus_tag` returns the negated tag of a class. The tag is below 2 ^ 31, as `negative` requires, because it is less than the number of classes,
-- which is limited.
use Rattle.std.proofs.Common.{arith}
use Rattle.cool_layout.proofs.TagRanges.{at_tag}
use Rattle.cool_codegen.proofs.code_setting.CodeSetting.minus_tag.Goals as goal

pub negative-requires : goal.negative-requires
negative-requires c =
    let is = c.tag.ensures c.args.self.now.table.now c.requires.sound.layout c.requires.class in
    let low = (at_tag c.args.self.now.table.now c.requires.sound.layout.rooted c.args.class c.requires.class).0 in
    let few = c.requires.sound.layout.limits.classes in
    omega arith
