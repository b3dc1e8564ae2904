-- `CodeSetting::tag_count` returns the number of tags from that of a class to the last one of the classes below it.
-- The number is below 2 ^ 31, as `signed` requires, because these classes are at most all classes of the table.
use Rattle.std.proofs.Common.{◌≡◌, ◌++◌, length, ap, length-append, arith}
use Rattle.cool_layout.specs.Preorder.{family, preorder}
use Rattle.cool_layout.proofs.TagRanges.{preorder_long, tag_cut}
use Rattle.cool_codegen.proofs.code_setting.CodeSetting.tag_count.Goals as goal

pub overflow_add-last_tag : goal.overflow_add-last_tag
overflow_add-last_tag c =
    let p = c.args.self.now.table.now in
    let layout = c.requires.sound.layout in
    let is = c.tag.ensures p layout c.requires.class in
    let last_is = c.last_tag.ensures p layout c.requires.class in
    let cut = tag_cut p layout.rooted c.args.class c.requires.class in
    let long : length (preorder p) ≡ length (cut.0 ++ (family p c.args.class ++ cut.1)) = ap length cut.2 in
    let few = layout.limits.classes in
    omega (arith, preorder_long p layout.rooted, length-append cut.0 (family p c.args.class ++ cut.1), length-append (family p c.args.class) cut.1)

pub signed-requires : goal.signed-requires
signed-requires c =
    let p = c.args.self.now.table.now in
    let layout = c.requires.sound.layout in
    let is = c.tag.ensures p layout c.requires.class in
    let last_is = c.last_tag.ensures p layout c.requires.class in
    let cut = tag_cut p layout.rooted c.args.class c.requires.class in
    let long : length (preorder p) ≡ length (cut.0 ++ (family p c.args.class ++ cut.1)) = ap length cut.2 in
    let few = layout.limits.classes in
    omega (arith, preorder_long p layout.rooted, length-append cut.0 (family p c.args.class ++ cut.1), length-append (family p c.args.class) cut.1)
