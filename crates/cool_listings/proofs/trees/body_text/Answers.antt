-- Each step of the loop of `body_text` adds the line of the next node, with the extent (first and last token) of the same index.
use Rattle.std.proofs.Common.{◌≡◌, ◌∙◌, ℕ, ◌<◌, List, ◌++◌, length, ap, refl, subst, arith}
use Rattle.std.specs.Prelude.{Some, slice_get}
use Rattle.std.proofs.lemmas.Option.{slice_get_read}
use Rattle.cool_syntax.specs.NodeLists.{nodes}
use Rattle.cool_syntax.proofs.TreesOfLists.{length-nodes}
use Rattle.cool_extents.specs.declared.extent.Extent.{Extent}
use Rattle.cool_extents.specs.FoundExtents.{found_extents}
use Rattle.cool_extents.proofs.LengthsFound.{length-found_extents}
use Rattle.cool_listings.specs.Columns.{column_seen}
use Rattle.cool_listings.specs.TreeLines.{body_text}
use Rattle.cool_listings.proofs.LinesLeft.{line_more, lines_end}
use Rattle.cool_listings.proofs.trees.body_text.Goals as goal

pub index-extent-requires : goal.index-extent-requires
index-extent-requires c =
    let many = ap length c.in_ok-extents.ensures ∙ length-found_extents c.args.tokens.now c.args.body.now in
    omega (arith, many, c.len-number-end.ensures, c.loop-number-test.true, c.in_ok-extents.extents.ok.0)

pub loop-number-preserved : goal.loop-number-preserved
loop-number-preserved c =
    let es = found_extents c.args.tokens.now c.args.body.now in
    let k = c.loop-number.number in
    let e = c.index-extent.result.now in
    let found = c.in_ok-extents.extents.items in
    let many = ap length c.in_ok-extents.ensures ∙ length-found_extents c.args.tokens.now c.args.body.now in
    let within : k < length found = omega (arith, many, c.len-number-end.ensures, c.loop-number-test.true) in
    let its = subst (λ (l : List Extent). slice_get l k ≡ Some e) c.in_ok-extents.ensures (slice_get_read found (length found) k e refl within c.index-extent.ensures) in
    line_more (column_seen c.args.column) es (nodes 0 c.args.body.now) k e c.node-node.result.now c.loop-number.text.items c.in_ok-node_line.field-0.items c.extend_from_slice.new.self.items
    (body_text (column_seen c.args.column) (found_extents c.args.tokens.now) c.args.body.now)
    c.node-node.ensures.node its c.in_ok-node_line.ensures
    (c.in_ok-extend_from_slice.ensures.items ∙ ap (λ (l : List ℕ). c.loop-number.text.items ++ l) c.deref.ensures.value)
    c.loop-number.invariant

pub returns : goal.returns
returns c =
    lines_end (column_seen c.args.column) (found_extents c.args.tokens.now c.args.body.now) (nodes 0 c.args.body.now) c.loop-number.number c.loop-number.text.items
    (body_text (column_seen c.args.column) (found_extents c.args.tokens.now) c.args.body.now)
    (omega (arith, length-nodes c.args.body.now 0, c.len-number-end.ensures, c.loop-number-test.false))
    c.loop-number.invariant
