-- `tables_of` returns the dispatch tables of all classes by tag: each step of its loop makes the table of one class from the table of its parent.
use Rattle.std.proofs.Common.{◌≡◌, ℕ, ◌+◌, ◌<◌, length, Option, sym, ap, ◌∙◌, subst, arith}
use Rattle.std.specs.Prelude.{IfSome}
use Rattle.cool_classes.specs.declared.class_id.ClassId.{ClassId}
use Rattle.cool_layout.specs.declared.slots.Table.{Table}
use Rattle.cool_layout.specs.Preorder.{preorder, tag}
use Rattle.cool_layout.specs.SlotTables.{AreTables, IsTableAt, IsAbove, own_methods, class_of, IsTableFor, slots_in, methods_in}
use Rattle.cool_layout.proofs.TagRanges.{preorder_long, at_tag}
use Rattle.cool_layout.proofs.TagsNoted.{class_read}
use Rattle.cool_layout.proofs.TablesInOrder.{above_in, tables_more}
use Rattle.cool_layout.proofs.slots.tables_of.Goals as goal

pub index-class-requires : goal.index-class-requires
index-class-requires c =
    let p = c.args.t.now in
    let count = c.count-tag-end.ensures.count in
    let low = c.loop-tag-test.true in
    let ok = c.args.walk.now.order.ok.0 in
    let long : length (preorder p) ≡ length p = preorder_long p c.requires.rooted in
    let same : length c.args.walk.now.order.items ≡ length (preorder p) = ap length c.requires.walk.order in
    omega arith

pub tag_above-above-requires-clause-class : goal.tag_above-above-requires-clause-class
tag_above-above-requires-clause-class c =
    let count = c.count-tag-end.ensures.count in
    let low = c.loop-tag-test.true in
    (class_read c.args.t.now c.requires.rooted c.args.walk.now.order.items c.requires.walk.order c.loop-tag.tag (omega arith) c.index-class.result.now c.index-class.ensures).0

pub start_table-requires-clause-within : goal.start_table-requires-clause-within
start_table-requires-clause-within c =
    let p = c.args.t.now in
    let count = c.count-tag-end.ensures.count in
    let low = c.loop-tag-test.true in
    let read = class_read p c.requires.rooted c.args.walk.now.order.items c.requires.walk.order c.loop-tag.tag (omega arith) c.index-class.result.now c.index-class.ensures in
    let long : length c.as_slice.result.now ≡ tag p c.index-class.result.now = ap length c.as_slice.ensures.value ∙ c.loop-tag.invariant.same ∙ sym read.1 in
    subst (λ n. IfSome c.tag_above-above.result (λ k. k < n)) (sym long) (above_in p (tag p c.index-class.result.now) c.tag_above-above.result c.tag_above-above.ensures)

pub add_all_own-requires-clause-within : goal.add_all_own-requires-clause-within
add_all_own-requires-clause-within c =
    let p = c.args.t.now in
    let count = c.count-tag-end.ensures.count in
    let low = c.loop-tag-test.true in
    let read = class_read p c.requires.rooted c.args.walk.now.order.items c.requires.walk.order c.loop-tag.tag (omega arith) c.index-class.result.now c.index-class.ensures in
    let long : length c.as_slice-in-loop-tag.result.now ≡ tag p c.index-class.result.now = ap length c.as_slice-in-loop-tag.ensures.value ∙ c.loop-tag.invariant.same ∙ sym read.1 in
    subst (λ (o : Option ℕ). IfSome o (λ k. k < length c.as_slice-in-loop-tag.result.now)) (sym c.in_ok-table.ensures.above)
    (subst (λ n. IfSome c.tag_above-above.result (λ k. k < n)) (sym long) (above_in p (tag p c.index-class.result.now) c.tag_above-above.result c.tag_above-above.ensures))

pub add_all_own-requires-clause-class : goal.add_all_own-requires-clause-class
add_all_own-requires-clause-class c =
    let count = c.count-tag-end.ensures.count in
    let low = c.loop-tag-test.true in
    (class_read c.args.t.now c.requires.rooted c.args.walk.now.order.items c.requires.walk.order c.loop-tag.tag (omega arith) c.index-class.result.now c.index-class.ensures).0

pub loop-tag-preserved : goal.loop-tag-preserved
loop-tag-preserved c =
    let p = c.args.t.now in
    let count = c.count-tag-end.ensures.count in
    let low = c.loop-tag-test.true in
    let inside : c.loop-tag.tag < length p = omega arith in
    let d : ClassId = c.index-class.result.now in
    let read = class_read p c.requires.rooted c.args.walk.now.order.items c.requires.walk.order c.loop-tag.tag inside d c.index-class.ensures in
    let t : Table = c.add_all_own.new.table in
    let above : t.above ≡ c.tag_above-above.result = c.in_ok-add_all_own.ensures.above ∙ c.in_ok-table.ensures.above in
    let class : d ≡ class_of p c.loop-tag.tag = sym (at_tag p c.requires.rooted d read.0).1 ∙ ap (class_of p) read.1 in
    let is : IsTableAt p c.loop-tag.tag t = record {
      above = subst (λ (o : Option ℕ). IsAbove p c.loop-tag.tag o) (sym above) (subst (λ n. IsAbove p n c.tag_above-above.result) read.1 c.tag_above-above.ensures);
      table = subst (λ (x : ClassId). IsTableFor (slots_in p t.above) (methods_in p t.above) (own_methods p x) t) class c.in_ok-add_all_own.ensures.table;
    } in
    subst (AreTables p (c.loop-tag.tag + 1)) (sym c.in_ok-push.ensures.items) (tables_more p c.loop-tag.tag c.loop-tag.tables.items t c.loop-tag.invariant inside is)
