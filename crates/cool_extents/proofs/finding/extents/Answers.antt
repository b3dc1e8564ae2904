-- Each step of the loop of `extents` adds the extent (first and last token) of the next node.
use Rattle.std.proofs.Common.{◌∙◌, List, ap, arith}
use Rattle.cool_syntax.specs.NodeLists.{nodes}
use Rattle.cool_syntax.proofs.TreesOfLists.{length-nodes}
use Rattle.cool_extents.specs.declared.extent.Extent.{Extent}
use Rattle.cool_extents.specs.FoundExtents.{found_extents, node_extent}
use Rattle.cool_extents.proofs.ExtentsMade.{one_found, all_found}
use Rattle.cool_extents.proofs.finding.extents.Goals as goal

pub loop-number-preserved : goal.loop-number-preserved
loop-number-preserved c =
    one_found c.args.tokens.now (nodes 0 c.args.body.now) c.loop-number.number c.node-node.result.now c.loop-number.found.items c.push.new.self.items
    (found_extents c.args.tokens.now c.args.body.now) c.node_extent-extent.result c.node-node.ensures.node
    (c.node_extent-extent.ensures ∙ ap (λ (es : List Extent). node_extent c.args.tokens.now es c.node-node.result.now) c.as_slice.ensures.value)
    c.in_ok-push.ensures.items c.loop-number.invariant

pub returns : goal.returns
returns c =
    all_found c.args.tokens.now (nodes 0 c.args.body.now) c.loop-number.number c.loop-number.found.items (found_extents c.args.tokens.now c.args.body.now)
    (omega (arith, length-nodes c.args.body.now 0, c.len-number-end.ensures, c.loop-number-test.false)) c.loop-number.invariant
