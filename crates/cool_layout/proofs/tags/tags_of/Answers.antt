-- `tags_of` returns the tag of each class: its loop goes through the classes in preorder, and each step stores the position of one class as its tag.
use Rattle.std.proofs.Common.{◌≡◌, ◌<◌, length, ap, ◌∙◌, arith}
use Rattle.std.proofs.lemmas.List.{length-set}
use Rattle.cool_layout.specs.Preorder.{preorder}
use Rattle.cool_layout.proofs.TagRanges.{preorder_long, at_tag}
use Rattle.cool_layout.proofs.TagsNoted.{class_read, noted}
use Rattle.cool_layout.proofs.tags.tags_of.Goals as goal

pub index-class-requires : goal.index-class-requires
index-class-requires c =
    let p = c.args.t.now in
    let count = c.count-tag-end.ensures.count in
    let low = c.loop-tag-test.true in
    let ok = c.args.walk.now.order.ok.0 in
    let long : length (preorder p) ≡ length p = preorder_long p c.requires.rooted in
    let same : length c.args.walk.now.order.items ≡ length (preorder p) = ap length c.requires.walk.order in
    omega arith

pub index_mut-requires : goal.index_mut-requires
index_mut-requires c =
    let p = c.args.t.now in
    let count = c.count-tag-end.ensures.count in
    let low = c.loop-tag-test.true in
    let read = class_read p c.requires.rooted c.args.walk.now.order.items c.requires.walk.order c.loop-tag.tag (omega arith) c.index-class.result.now c.index-class.ensures in
    let within = read.0 in
    let long = c.loop-tag.invariant.0 in
    let ok = c.loop-tag.tags.ok.0 in
    omega arith

pub loop-tag-preserved : goal.loop-tag-preserved
loop-tag-preserved c =
    let p = c.args.t.now in
    let count = c.count-tag-end.ensures.count in
    let low = c.loop-tag-test.true in
    let inside : c.loop-tag.tag < length p = omega arith in
    let read = class_read p c.requires.rooted c.args.walk.now.order.items c.requires.walk.order c.loop-tag.tag inside c.index-class.result.now c.index-class.ensures in (
      length-set c.loop-tag.tags.items c.index-class.result.now.0 c.loop-tag.tag ∙ c.loop-tag.invariant.0,
      noted p c.requires.rooted c.loop-tag.tags.items c.loop-tag.tag c.index-class.result.now c.loop-tag.invariant.0 inside read.0 read.1 c.loop-tag.invariant.1,
    )

pub returns : goal.returns
returns c =
    let p = c.args.t.now in
    let count = c.count-tag-end.ensures.count in
    let end = c.loop-tag-test.false in
    record {
      same = c.loop-tag.invariant.0;
      tag_is = λ d within. c.loop-tag.invariant.1 d within (let low : _ = (at_tag p c.requires.rooted d within).0 in omega arith);
    }
