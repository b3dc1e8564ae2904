-- `let_extent` returns the extent from the keyword `let`, or from the variable if `let` is not right before it, to the last token of the body.
use Rattle.std.proofs.Common.{◌∙◌, ap}
use Rattle.cool_extents.specs.FoundExtents.{token_place, number_of, latest, let_first, outer_last}
use Rattle.cool_extents.proofs.ExtentsMade.{same_extent}
use Rattle.cool_extents.proofs.finding.let_extent.Goals as goal

pub returns : goal.returns
returns c =
    let ts = c.args.tokens.now in
    same_extent c.let_first.result c.token_place.result (let_first ts c.args.at (number_of ts c.args.at)) (token_place ts (outer_last ts (latest c.args.found.now)))
    (c.let_first.ensures ∙ ap (let_first ts c.args.at) c.number_of.ensures.number)
    (c.token_place.ensures ∙ ap (token_place ts) (c.outer_last-last.ensures.number ∙ ap (outer_last ts) c.latest.ensures))
