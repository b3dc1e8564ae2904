-- `operation_extent` returns the extent from the first token of the left operand to the last token of the right one.
use Rattle.std.proofs.Common.{◌∙◌, ap}
use Rattle.cool_extents.specs.FoundExtents.{token_place, extent_at, latest, outer_first, outer_last}
use Rattle.cool_extents.proofs.ExtentsMade.{same_extent}
use Rattle.cool_extents.proofs.finding.operation_extent.Goals as goal

pub returns : goal.returns
returns c =
    let ts = c.args.tokens.now in
    same_extent c.token_place.result c.token_place-2.result (token_place ts (outer_first ts (extent_at c.args.found.now c.args.left.0))) (token_place ts (outer_last ts (latest c.args.found.now)))
    (c.token_place.ensures ∙ ap (token_place ts) (c.outer_first-first.ensures ∙ ap (outer_first ts) c.extent_at.ensures))
    (c.token_place-2.ensures ∙ ap (token_place ts) (c.outer_last-last.ensures.number ∙ ap (outer_last ts) c.latest.ensures))
