-- `call_extent` returns the extent from the first token of the receiver to the last token of the call, as `call_extent` of `FoundExtents.antt` defines.
use Rattle.std.proofs.Common.{◌∙◌, ap}
use Rattle.cool_extents.specs.FoundExtents.{token_place, extent_at, outer_first, call_last}
use Rattle.cool_extents.proofs.ExtentsMade.{same_extent}
use Rattle.cool_extents.proofs.finding.call_extent.Goals as goal

pub returns : goal.returns
returns c =
    let ts = c.args.tokens.now in
    same_extent c.token_place.result c.token_place-2.result (token_place ts (outer_first ts (extent_at c.args.found.now c.args.receiver.0)))
    (token_place ts (call_last ts c.args.at c.args.found.now c.args.args.now))
    (c.token_place.ensures ∙ ap (token_place ts) (c.outer_first-first.ensures ∙ ap (outer_first ts) c.extent_at.ensures))
    (c.token_place-2.ensures ∙ ap (token_place ts) c.call_last-last.ensures)
