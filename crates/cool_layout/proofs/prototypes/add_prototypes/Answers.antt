-- `add_prototypes` appends the prototype (the object that `new` copies) of each class in preorder. Each step of its loop adds one class: its tag is its
-- position in preorder, and the attributes of its parent are stored.
use Rattle.std.proofs.Common.{◌≡◌, ℕ, ◌<◌, List, ◌++◌, length, take, get_or, flat_map, sym, ap, ◌∙◌, subst, arith}
use Rattle.std.proofs.lemmas.List.{flat_map_more, length_push, take_more}
use Rattle.mips_isa.specs.Lines.{Line, lines_of}
use Rattle.cool_classes.specs.declared.class_id.ClassId.{ClassId}
use Rattle.cool_classes.specs.Chains.{class_number}
use Rattle.cool_layout.specs.AttributeLists.{AreAttributes}
use Rattle.cool_layout.specs.LinesOfLayout.{prototype_lines}
use Rattle.cool_layout.specs.Members.{attributes}
use Rattle.cool_layout.specs.SlotTables.{IsAbove}
use Rattle.cool_layout.proofs.AttributesThere.{attributes_more}
use Rattle.cool_layout.proofs.ClassesByTag.{tag_within, class_within, place_is_tag, class_by_tag}
use Rattle.cool_layout.proofs.prototypes.add_prototypes.Goals as goal

pub offset_bounds-tables-tag : goal.offset_bounds-tables-tag
offset_bounds-tables-tag c =
    let p = c.args.t.now in
    let low : c.loop-tag.tag < length p = tag_within p c.requires.rooted c.args.order.now c.requires.order c.loop-tag.tag c.loop-tag-test.true in
    let few = c.requires.rooted.table.few in
    omega arith

pub bounds-tables-tag : goal.bounds-tables-tag
bounds-tables-tag c =
    let p = c.args.t.now in
    let low : c.loop-tag.tag < length p = tag_within p c.requires.rooted c.args.order.now c.requires.order c.loop-tag.tag c.loop-tag-test.true in
    let same = c.requires.tables.same in
    omega arith

pub bounds-tables-tag-in-loop-tag : goal.bounds-tables-tag-in-loop-tag
bounds-tables-tag-in-loop-tag c =
    let p = c.args.t.now in
    let low : c.loop-tag.tag < length p = tag_within p c.requires.rooted c.args.order.now c.requires.order c.loop-tag.tag c.loop-tag-test.true in
    let same = c.requires.tables.same in
    omega arith

pub next_attributes-requires-clause-within : goal.next_attributes-requires-clause-within
next_attributes-requires-clause-within c = class_within c.args.t.now c.requires.rooted c.args.order.now c.requires.order c.loop-tag.tag c.loop-tag-test.true

pub next_attributes-requires-clause-above : goal.next_attributes-requires-clause-above
next_attributes-requires-clause-above c =
    let p = c.args.t.now in
    let low : c.loop-tag.tag < length p = tag_within p c.requires.rooted c.args.order.now c.requires.order c.loop-tag.tag c.loop-tag-test.true in
    let known : length c.as_slice.result.now ≡ c.loop-tag.tag = ap length c.as_slice.ensures.value ∙ c.loop-tag.invariant.1 in
    subst (λ (n : ℕ). IsAbove p n (get_or c.args.tables.now c.loop-tag.tag c.index-tables-tag.result).above) (sym known) (c.requires.tables.tables c.loop-tag.tag c.index-tables-tag.result low).above

pub overflow_cast-tag : goal.overflow_cast-tag
overflow_cast-tag c =
    let p = c.args.t.now in
    let low : c.loop-tag.tag < length p = tag_within p c.requires.rooted c.args.order.now c.requires.order c.loop-tag.tag c.loop-tag-test.true in
    let few = c.requires.rooted.table.few in
    omega arith

pub add_prototype-requires-clause-within : goal.add_prototype-requires-clause-within
add_prototype-requires-clause-within c = class_within c.args.t.now c.requires.rooted c.args.order.now c.requires.order c.loop-tag.tag c.loop-tag-test.true

pub add_prototype-requires-clause-tag : goal.add_prototype-requires-clause-tag
add_prototype-requires-clause-tag c = place_is_tag c.args.t.now c.requires.rooted c.args.order.now c.requires.order c.loop-tag.tag c.loop-tag-test.true

pub loop-tag-preserved : goal.loop-tag-preserved
loop-tag-preserved c =
    let p = c.args.t.now in
    let k : ℕ = c.loop-tag.tag in
    let order : List ClassId = c.args.order.now in
    let d : ClassId = get_or order k (class_number 0) in
    let old : List Line = lines_of c.args.lines.now.items in
    let one : ClassId → List Line = prototype_lines p in (
      c.in_ok-add_prototype.ensures ∙ ap (λ (l : List Line). l ++ one d) c.loop-tag.invariant.0 ∙ flat_map_more one old (take k order) d
          ∙ ap (λ (ds : List ClassId). old ++ flat_map one ds) (sym (take_more order k (class_number 0) c.loop-tag-test.true)),
      (let l = ap length c.in_ok-push.ensures.items ∙ length_push c.loop-tag.known.items c.in_ok-attributes.attributes in let e = c.loop-tag.invariant.1 in omega arith),
      subst (AreAttributes p) (sym c.in_ok-push.ensures.items)
          (attributes_more p c.loop-tag.known.items c.in_ok-attributes.attributes k c.loop-tag.invariant.1 c.loop-tag.invariant.2
          (c.in_ok-attributes.ensures ∙ ap (attributes p) (class_by_tag p c.requires.rooted order c.requires.order k c.loop-tag-test.true))),
    )
