-- `add_dispatch_tables` appends the dispatch table of each class in preorder: the table at a tag has the methods of the class at this position in preorder.
use Rattle.std.proofs.Common.{◌<◌, length, ◌∙◌, arith}
use Rattle.cool_layout.proofs.ClassesByTag.{tag_within, class_within, methods_by_tag}
use Rattle.cool_layout.proofs.tables.add_dispatch_tables.Goals as goal

pub offset_bounds-tables-tag : goal.offset_bounds-tables-tag
offset_bounds-tables-tag c =
    let p = c.args.t.now in
    let low : c.loop-tag.tag < length p = tag_within p c.requires.rooted c.args.order.now c.requires.order c.loop-tag.tag c.loop-tag-test.true in
    let few = c.requires.rooted.table.few in
    omega arith

pub bounds-tables-tag : goal.bounds-tables-tag
bounds-tables-tag c =
    let p = c.args.t.now in
    let low : c.loop-tag.tag < length p = tag_within p c.requires.rooted c.args.order.now c.requires.order c.loop-tag.tag c.loop-tag-test.true in
    let same = c.requires.tables.same in
    omega arith

pub add_dispatch_table-requires-clause-within : goal.add_dispatch_table-requires-clause-within
add_dispatch_table-requires-clause-within c = class_within c.args.t.now c.requires.rooted c.args.order.now c.requires.order c.loop-tag.tag c.loop-tag-test.true

pub add_dispatch_table-requires-clause-methods : goal.add_dispatch_table-requires-clause-methods
add_dispatch_table-requires-clause-methods c =
    c.as_slice-methods.ensures.value
    ∙ methods_by_tag c.args.t.now c.requires.rooted c.args.order.now c.requires.order c.loop-tag.tag c.loop-tag-test.true c.args.tables.now c.requires.tables c.index-tables-tag.result
