-- `CodeSetting::offset` returns the offset of an attribute in an object, in bytes.
-- The offset is below 2 ^ 31, as `signed` requires, because a class has at most 2,000 attributes.
use Rattle.std.proofs.Common.{arith}
use Rattle.cool_classes.specs.ClimbedChains.{chain}
use Rattle.cool_layout.specs.Members.{attributes, is_attribute}
use Rattle.cool_layout.proofs.ShortChains.{chain_is}
use Rattle.cool_codegen.proofs.AttributesOfClasses.{place_low}
use Rattle.cool_codegen.proofs.code_setting.CodeSetting.offset.Goals as goal

pub signed-requires : goal.signed-requires
signed-requires c =
    let p = c.args.self.now.table.now in
    let k = c.args.self.now.class in
    let layout = c.requires.sound.layout in
    let is = c.offset.ensures.offset p layout c.requires.sound.class c.requires.there in
    let few = layout.limits.attributes k (chain p k) c.requires.sound.class (chain_is p layout.rooted k c.requires.sound.class) in
    let low = place_low (is_attribute c.args.attribute) (attributes p k) in
    omega arith
